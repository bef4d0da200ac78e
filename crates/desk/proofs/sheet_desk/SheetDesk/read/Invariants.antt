use Rattle.std.proofs.Common.{◌-◌}
use Rattle.stream.specs.Readers.{unread}
use Rattle.desk.specs.Desks.{writing}
use Rattle.desk.specs.Listings.{writes}
use Rattle.desk.specs.Runs.{with_sheet}
use Rattle.desk.proofs.Leads.{Leads}
use Rattle.desk.proofs.sheet_desk.SheetDesk.read.Given as goal

-- each line taken has a higher number, below the limit
abbrev pub decreases-loop-lines : goal.decreases-loop-lines
decreases-loop-lines g l = 1000000 - l.self.reader.line

-- a run from here is a run from the beginning
abbrev pub invariant-loop-lines : goal.invariant-loop-lines
invariant-loop-lines g l = Leads writes with_sheet (unread g.R.Read.remaining l.initial.lines) l.initial.self.reader (writing l.initial.self) (unread g.R.Read.remaining l.lines) l.self.reader (writing l.self)
