use Rattle.std.proofs.Common.{map, length}
use Rattle.charge.specs.Spread.{month_delta_of}
use Rattle.charge.proofs.Dots.{Summed}
use Rattle.charge.proofs.positions.Position.month_delta.Given as goal

abbrev pub invariant-loop-count : goal.invariant-loop-count
invariant-loop-count l = Summed 100 (map (month_delta_of l.month) l.self.class.now.series.now) l.self.counts.now (length l.yielded) l.sum
