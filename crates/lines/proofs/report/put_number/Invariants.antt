use Rattle.std.proofs.Common.{◌≡◌, ◌+◌, ◌^◌, ◌<◌, ◌++◌, length, drop, decimal}
use Rattle.lines.proofs.report.put_number.Given as goal

-- the digits that are left to write, before those that are written
abbrev pub invariant-loop-left : goal.invariant-loop-left
invariant-loop-left l = (decimal l.left ++ drop (l.i + 1) l.out ≡ decimal l.n) × (l.left < 10 ^ (l.i + 1)) × (l.i < length l.out)

abbrev pub decreases-loop-left : goal.decreases-loop-left
decreases-loop-left l = l.left
