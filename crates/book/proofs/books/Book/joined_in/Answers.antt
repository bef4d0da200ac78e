use Rattle.std.proofs.Common.{◌<◌, ◌≤◌, length, None, Some, Err, ap, sym, ◌∙◌, subst, arith, w64, to_z}
use Rattle.std.proofs.lemmas.List.{length-replicate}
use Rattle.std.proofs.lemmas.Result.{err_from_is_err_and}
use Rattle.sheet.specs.Given.{Terms, class_at, given}
use Rattle.sheet.specs.Limits.{Within}
use Rattle.account.specs.Outcomes.{plus}
use Rattle.account.specs.Pools.{joined_from, joins, pool_of}
use Rattle.account.proofs.Kit.{sum_back, abs_add}
use Rattle.account.proofs.Parts.{small_fits_class}
use Rattle.book.specs.Pool.{counts_in, pieces_in, pooled}
use Rattle.book.specs.View.{view}
use Rattle.book.proofs.Taken.{from_next}
use Rattle.book.proofs.Joining.{nothing_joined, nothing_within, pool_first, pool_stopped, pool_made, pool_stop, pool_go, pool_joined, pool_end, position_more}
use Rattle.book.proofs.books.Book.joined_in.Goals as goal
use Rattle.book.proofs.books.Book.joined_in.Goals.{in-Some+in_ok-allowances, in_default}

pub loop-k-init : goal.loop-k-init
loop-k-init g c =
    let s = view c.args.self.now in
    let row = class_at s.classes c.args.i in
    let t = given row s.series in
    let class = c.class-class.result in
    let none = nothing_joined class.series.now t.rows (ap (λ (t : Terms). t.rows) c.class-class.ensures.value) class.inside.2 in
    let first = pool_first (g.C.Charge.meaning c.args.charge.now) t s row c.args.side _ none in
    record {
      long = ap length none ∙ length-replicate (length t.rows) _;
      small = subst (Within 0) (sym none) (nothing_within (length t.rows));
      bound = omega arith;
      ahead = first.0;
      after = first.1;
    }

pub returns-in_err-allowances : goal.returns-in_err-allowances
returns-in_err-allowances g c =
    let s = view c.args.self.now in
    let row = class_at s.classes c.args.i in
    let t = given row s.series in
    let m = g.C.Charge.meaning c.args.charge.now in
    let p = err_from_is_err_and c.from_residual.result c.from_residual.ensures.1 in
    let below : c.loop-k.k < length s.accounts = omega (arith, c.loop-k-test.true, c.account_count-k-end.ensures.value) in
    let next = from_next s c.args.side c.loop-k.k (Some c.in-Some.row) c.in-Some.ensures.value below in
    let stop = pool_stop m t s row c.args.side c.loop-k.k _ c.loop-k.position c.in-Some.row next _ c.in_err-allowances.ensures.answer in
    record { answer = p.1 ∙ ap Err p.2 ∙ pool_stopped m t (pieces_in s row (pooled s c.args.side)) _ (sym stop ∙ c.loop-k.invariant.ahead) }

pub loop-k-preserved : goal.loop-k-preserved
loop-k-preserved g c =
    let s = view c.args.self.now in
    let row = class_at s.classes c.args.i in
    let t = given row s.series in
    let m = g.C.Charge.meaning c.args.charge.now in
    let below : c.loop-k.k < length s.accounts = omega (arith, c.loop-k-test.true, c.account_count-k-end.ensures.value) in
    let e = c.loop-k.allowances-is in
    let inv = rw e at c.loop-k.invariant in
    let k = c.loop-k.k in
    let a = c.loop-k.allowances in
    let p = c.loop-k.position in
    elim c.match-taken.branch [
      | in-Some+in_ok-allowances w ↦
          let account = w.in-Some.row in
          let own = counts_in s row account in
          let y = w.in_ok-allowances.field-0 in
          let told = w.in_ok-allowances.ensures.answer in
          let made = w.in_ok-allowances.ensures.after in
          let counts = w.in_ok-allowances.ensures.counts in
          let after = w.join_account.new.position in
          let next = from_next s c.args.side k (Some account) w.in-Some.ensures.value below in
          let b = sum_back a y (omega (arith, inv.bound, w.in_ok-allowances.ensures.bound, below, c.account_count-k-end.ensures.value, c.account_count-k-end.ensures.bound)) in
          let grown = position_more account.basis k p own after (inv.long ∙ sym counts.0) inv.small counts.1 made in
          let go = pool_go m t s row c.args.side k a p account next after made y told in
          let on = pool_joined m t s row c.args.side k a p account next after made in
          rw (w.position-is, w.allowances-is, e, b) (record {
            long = grown.0 ∙ inv.long;
            small = grown.1;
            bound = omega (arith, abs_add a y, inv.bound, w.in_ok-allowances.ensures.bound);
            ahead = sym go ∙ inv.ahead;
            after = sym on ∙ inv.after;
          })
      | in_default w ↦
          let next = from_next s c.args.side k None w.in_default.ensures.value below in
          rw (w.position-is, w.allowances-is, e) (record {
            long = inv.long;
            small = λ i. omega (arith, inv.small i);
            bound = omega (arith, inv.bound);
            ahead = ap (λ rows. plus a (joins m t p (pieces_in s row rows))) (sym next) ∙ inv.ahead;
            after = ap (λ rows. joined_from p (pieces_in s row rows)) (sym next) ∙ inv.after;
          })
    ]

pub invariant_of-joined : goal.invariant_of-joined
invariant_of-joined g c =
    let s = view c.args.self.now in
    let inv = c.loop-k.invariant in
    let same = ap (λ (t : Terms). t.rows) c.class-class.ensures.value in
    record { fits_class = small_fits_class (length c.class-class.result.series.now) c.loop-k.position (inv.long ∙ ap length (sym same)) (λ i. omega (arith, inv.small i, c.loop-k.auto.k-end, c.account_count-k-end.ensures.bound)) }

pub returns : goal.returns
returns g c =
    let s = view c.args.self.now in
    let row = class_at s.classes c.args.i in
    let t = given row s.series in
    let m = g.C.Charge.meaning c.args.charge.now in
    let all = pieces_in s row (pooled s c.args.side) in
    let p = c.loop-k.position in
    let inv = c.loop-k.invariant in
    let past : length s.accounts ≤ c.loop-k.k = omega (arith, c.loop-k-test.false, c.account_count-k-end.ensures.value) in
    let a = to_z w64 c.loop-k.allowances-bits in
    let end = pool_end m t s row c.args.side c.loop-k.k a p past in
    record { answer = c.class_pool.ensures.answer ∙ ap (λ t. pool_of m t p a) c.class-class.ensures.value ∙ pool_made m t all a p (sym end.0 ∙ inv.ahead) (sym end.1 ∙ inv.after) }
