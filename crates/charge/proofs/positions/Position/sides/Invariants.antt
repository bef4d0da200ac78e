use Rattle.charge.proofs.Sides.{Sides}
use Rattle.charge.proofs.positions.Position.sides.Given as goal

abbrev pub invariant-loop-i : goal.invariant-loop-i
invariant-loop-i l = Sides l.self.class.now.series.now l.self.counts.now l.i l.longs l.shorts
