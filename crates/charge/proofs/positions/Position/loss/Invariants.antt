use Rattle.std.proofs.Common.{map}
use Rattle.sheet.specs.Limits.{scenario}
use Rattle.charge.proofs.Dots.{Summed}
use Rattle.charge.proofs.positions.Position.loss.Given as goal

abbrev pub invariant-loop-i : goal.invariant-loop-i
invariant-loop-i l = Summed 10000000 (map (scenario l.k) l.self.class.now.series.now) l.self.counts.now l.i l.sum
