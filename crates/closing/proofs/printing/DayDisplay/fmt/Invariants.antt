use Rattle.closing.specs.Days.{figures}
use Rattle.closing.specs.Report.{report, sides}
use Rattle.closing.proofs.Reported.{Printing, accounts_from}
use Rattle.closing.proofs.printing.DayDisplay.fmt.Given as goal

abbrev pub invariant-loop-statement : goal.invariant-loop-statement
invariant-loop-statement g l =
    let day = figures l.self in
    Printing g.W.Write.write_str_gives l.initial.f (report day) (accounts_from day.rates (sides day) l.statement-items l.statement-index) l.f
