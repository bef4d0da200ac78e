use Rattle.std.proofs.Common.{◌≡◌, ◌++◌, take, drop}
use Rattle.account.specs.Pieces.{margined_counts}
use Rattle.account.proofs.pieces.margin_counts.Given as goal

abbrev pub invariant-loop-i : goal.invariant-loop-i
invariant-loop-i l = take l.i l.counts ++ margined_counts l.basis (drop l.i l.longs) (drop l.i l.shorts) ≡ margined_counts l.basis l.longs l.shorts
