use Rattle.std.proofs.Common.{◌≡◌, ◌∙◌, ◌<◌, ap, refl, length, None, Err, rules, arith}
use Rattle.std.proofs.lemmas.Result.{err_from_is_err_and}
use Rattle.std.proofs.lemmas.List.{length-append}
use Rattle.std.specs.Prelude.{option_map}
use Rattle.book.specs.View.{view}
use Rattle.book.specs.Reports.{row_report}
use Rattle.desk.proofs.DrawnUp.{all_left, passed_over, refuses, draws, all_drawn}
use Rattle.desk.proofs.statements.draw_up.Goals as goal
use Rattle.desk.proofs.statements.draw_up.Goals.{in-Some-Some+in_ok-owed, in-Some+in-None-1, in-None-1}

pub loop-k-init : goal.loop-k-init
loop-k-init g c =
    let none = c.new-statements.ensures.none in
    record { room = omega (arith, ap length none); ahead = all_left (g.C.Charge.meaning c.args.charge.now) (view c.args.book.now) _ none }

pub returns-in_err-owed : goal.returns-in_err-owed
returns-in_err-owed g c =
    let l = c.loop-k in
    let s = view c.args.book.now in
    let lt : l.k < length s.accounts = omega (arith, c.loop-k-test.true, c.account_count-k-end.ensures.value) in
    let p = err_from_is_err_and c.from_residual.result c.from_residual.ensures.1 in
    let both = c.in-Some-Some in
    rw p.1 (record { all = tt; answer = ap Err p.2 ∙ refuses (g.C.Charge.meaning c.args.charge.now) s l.k l.statements l.invariant.ahead lt both.row both.answer _ both.ensures.value both.ensures'.answer c.in_err-owed.was })

pub loop-k-preserved : goal.loop-k-preserved
loop-k-preserved g c =
    let l = c.loop-k in
    let m = g.C.Charge.meaning c.args.charge.now in
    let s = view c.args.book.now in
    let lt : l.k < length s.accounts = omega (arith, c.loop-k-test.true, c.account_count-k-end.ensures.value) in
    elim c.match-account.branch [
      | in-Some-Some+in_ok-owed w ↦
          (let both = w.in-Some-Some in
          rw (w.statements-is, w.push.ensures.after) (record {
            room = omega (arith, length-append l.statements, l.invariant.room);
            ahead = draws m s l.k l.statements l.invariant.ahead lt both.row both.answer w.in_ok-owed.field-0 _ both.ensures.value both.ensures'.answer w.in_ok-owed.was refl;
          }))
      | in-Some+in-None-1 w ↦
          (let none : None ≡ c.nth_report.result = search rules in
          rw w.statements-is (record { room = omega (arith, l.invariant.room); ahead = passed_over m s l.k l.statements l.invariant.ahead lt (none ∙ c.nth_report.ensures.answer) }))
      | in-None-1 w ↦
          (let none : None ≡ c.account.result = search rules in
          rw w.statements-is (record { room = omega (arith, l.invariant.room); ahead = passed_over m s l.k l.statements l.invariant.ahead lt (ap (option_map (row_report m s)) (none ∙ c.account.ensures.value)) }))
    ]

pub returns-clause-all : goal.returns-clause-all
returns-clause-all g c =
    let s = view c.args.book.now in
    let end : c.loop-k.k ≡ length s.accounts = omega (arith, c.loop-k-test.false, c.account_count-k-end.ensures.value) in
    all_drawn (g.C.Charge.meaning c.args.charge.now) s c.loop-k.statements (rw end at c.loop-k.invariant.ahead) c.args.book.now.each_number
