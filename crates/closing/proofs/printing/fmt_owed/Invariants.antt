use Rattle.collateral.specs.Requirements.{owes}
use Rattle.closing.specs.Report.{owed_in, owed_lines}
use Rattle.closing.proofs.Reported.{Printing, lines_from}
use Rattle.closing.proofs.printing.fmt_owed.Given as goal

abbrev pub invariant-loop-currency : goal.invariant-loop-currency
invariant-loop-currency g l =
    let rates = l.rates.by_number in
    Printing g.W.Write.write_str_gives l.initial.f (owed_lines rates (owes l.statement)) (lines_from rates (owed_in (owes l.statement)) l.currency-index) l.f
