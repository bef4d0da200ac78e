use Rattle.std.proofs.Common.{◌-◌}
use Rattle.stream.specs.Readers.{unread}
use Rattle.desk.specs.Desks.{dealing}
use Rattle.desk.specs.Dealings.{deals}
use Rattle.desk.specs.Runs.{with_input}
use Rattle.desk.proofs.Leads.{Leads}
use Rattle.desk.proofs.book_desk.BookDesk.read.Given as goal

-- each line taken has a higher number, below the limit
abbrev pub decreases-loop-line : goal.decreases-loop-line
decreases-loop-line g l = 1000000 - l.self.reader.line

-- a run from here is a run from the beginning
abbrev pub invariant-loop-line : goal.invariant-loop-line
invariant-loop-line g l = Leads deals with_input (unread g.R.Read.remaining l.initial.lines) l.initial.self.reader (dealing l.initial.self) (unread g.R.Read.remaining l.lines) l.self.reader (dealing l.self)
