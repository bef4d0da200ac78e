use Rattle.closing.specs.Days.{figures}
use Rattle.closing.specs.Report.{call_in, call_lines}
use Rattle.closing.proofs.Reported.{Printing, lines_from}
use Rattle.closing.proofs.printing.fmt_calls.Given as goal

abbrev pub invariant-loop-currency : goal.invariant-loop-currency
invariant-loop-currency g l =
    let day = figures l.day in
    Printing g.W.Write.write_str_gives l.initial.f (call_lines day l.side) (lines_from day.rates (call_in day l.side) l.currency-index) l.f
