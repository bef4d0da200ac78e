use Rattle.std.proofs.Common.{◌-◌}
use Rattle.std.specs.Io.KnownBytes.{Keeps}
use Rattle.stream.specs.Readers.{unread}
use Rattle.stream.proofs.lines.LineReader.next_size.Given as goal

-- each read that goes on adds to less than a line
abbrev pub decreases-loop-size : goal.decreases-loop-size
decreases-loop-size g l = 82 - (l.self.to - l.self.from)

-- what is left stays what it was
abbrev pub invariant-loop-size : goal.invariant-loop-size
invariant-loop-size g l = Keeps (unread g.R.Read.remaining l.initial.self) (unread g.R.Read.remaining l.self)
