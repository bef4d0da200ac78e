use Rattle.std.proofs.Common.{rules}
use Rattle.closing.specs.Days.{figures}
use Rattle.closing.specs.Report.{call_in}
use Rattle.closing.proofs.Reported.{prints_line, passes_over}
use Rattle.closing.proofs.printing.fmt_calls.Goals.{then-quotes+in_ok-write, else-quotes}
use Rattle.closing.proofs.printing.fmt_calls.Goals as goal

pub loop-currency-preserved : goal.loop-currency-preserved
loop-currency-preserved g c =
    let day = figures c.args.day.now in
    let line = call_in day c.args.side in
    let l = c.loop-currency in
    let lt = c.loop-currency-test.true in
    elim c.if-quotes.branch [
      | then-quotes+in_ok-write w ↦ prints_line day.rates line l.currency-index lt _ _ _ _ _ l.invariant (search rules) (λ plain. search rules)
      | else-quotes w ↦ passes_over day.rates line l.currency-index lt _ _ _ _ _ l.invariant (search rules) w.f-is
    ]
