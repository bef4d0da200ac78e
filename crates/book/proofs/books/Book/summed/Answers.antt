use Rattle.std.proofs.Common.{◌<◌, length, None, Some, Err, sym, ap, ◌∙◌, arith}
use Rattle.std.proofs.lemmas.Result.{err_from_is_err_and}
use Rattle.book.specs.Reports.{row_report}
use Rattle.book.specs.View.{view}
use Rattle.book.proofs.Taken.{from_next, summed_first, summed_go, summed_stop, more_summed}
use Rattle.book.specs.Pool.{all_of}
use Rattle.book.proofs.books.Book.summed.Goals as goal
use Rattle.book.proofs.books.Book.summed.Goals.{in-Some+in_ok-total, in_default}

pub loop-k-init : goal.loop-k-init
loop-k-init g c =
    record { bound = omega arith; ahead = summed_first (row_report (g.C.Charge.meaning c.args.charge.now) (view c.args.self.now)) (view c.args.self.now) c.args.side }

pub returns-in_err-total : goal.returns-in_err-total
returns-in_err-total g c =
    let s = view c.args.self.now in
    let p = err_from_is_err_and c.from_residual.result c.from_residual.ensures.1 in
    let below : c.loop-k.k < length s.accounts = omega (arith, c.loop-k-test.true, c.account_count-k-end.ensures.value) in
    let next = from_next s c.args.side c.loop-k.k (Some c.in-Some.row) c.in-Some.ensures.value below in
    let stop = summed_stop (row_report (g.C.Charge.meaning c.args.charge.now) s) c.loop-k.total s c.args.side c.loop-k.k c.in-Some.row _ next c.in_err-total.ensures.answer in
    record { answer = p.1 ∙ ap Err p.2 ∙ sym stop ∙ c.loop-k.invariant.ahead }

pub loop-k-preserved : goal.loop-k-preserved
loop-k-preserved g c =
    let s = view c.args.self.now in
    let one = row_report (g.C.Charge.meaning c.args.charge.now) s in
    let below : c.loop-k.k < length s.accounts = omega (arith, c.loop-k-test.true, c.account_count-k-end.ensures.value) in
    elim c.match-taken.branch [
      | in-Some+in_ok-total w ↦
          let next = from_next s c.args.side c.loop-k.k (Some w.in-Some.row) w.in-Some.ensures.value below in
          let go = summed_go one c.loop-k.total s c.args.side c.loop-k.k w.in-Some.row _ next w.in_ok-total.ensures.answer in
          rw w.total-is (record { bound = omega (arith, c.loop-k.invariant.bound, w.in_ok-total.ensures.bound); ahead = sym go ∙ c.loop-k.invariant.ahead })
      | in_default w ↦
          let next = from_next s c.args.side c.loop-k.k None w.in_default.ensures.value below in
          rw w.total-is (record { bound = omega (arith, c.loop-k.invariant.bound); ahead = ap (λ rows. more_summed c.loop-k.total (all_of one rows)) (sym next) ∙ c.loop-k.invariant.ahead })
    ]
