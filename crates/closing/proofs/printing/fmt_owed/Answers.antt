use Rattle.std.proofs.Common.{rules}
use Rattle.collateral.specs.Requirements.{owes}
use Rattle.closing.specs.Report.{owed_in}
use Rattle.closing.proofs.Reported.{prints_line, passes_over}
use Rattle.closing.proofs.printing.fmt_owed.Goals.{then-quotes+in_ok-write, else-quotes}
use Rattle.closing.proofs.printing.fmt_owed.Goals as goal

pub loop-currency-preserved : goal.loop-currency-preserved
loop-currency-preserved g c =
    let rates = c.args.rates.now.by_number in
    let line = owed_in (owes c.args.statement.now) in
    let l = c.loop-currency in
    let lt = c.loop-currency-test.true in
    elim c.if-quotes.branch [
      | then-quotes+in_ok-write w ↦ prints_line rates line l.currency-index lt _ _ _ _ _ l.invariant (search rules) (λ plain. search rules)
      | else-quotes w ↦ passes_over rates line l.currency-index lt _ _ _ _ _ l.invariant (search rules) w.f-is
    ]
