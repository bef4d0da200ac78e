use Rattle.std.proofs.Common.{◌≡◌, ◌≤◌, map, length, get_or, pos, sym, refl, arith, lit≤}
use Rattle.std.proofs.lemmas.Int.{to_z-of_z}
use Rattle.std.proofs.lemmas.List.{get_or-map, length-map}
use Rattle.sheet.specs.Limits.{scenario}
use Rattle.charge.specs.Scanning.{loss}
use Rattle.charge.proofs.Dots.{no_series, fits_parts, Turn, turn, summed}
use Rattle.charge.proofs.positions.Position.loss.Goals as goal

-- the product of this turn
at_turn : (c : goal.After-sum-in-loop-i-1) →
    Turn 10000000 (map (scenario c.args.k) c.args.self.now.class.now.series.now) c.args.self.now.counts.now c.loop-i.i c.loop-i.sum (get_or c.args.self.now.counts.now c.loop-i.i (pos 0)) (scenario c.args.k (get_or c.args.self.now.class.now.series.now c.loop-i.i no_series))
at_turn c =
    let rows = c.args.self.now.class.now.series.now in
    let f = scenario c.args.k in
    let parts = fits_parts (length rows) c.args.self.now.counts.now c.args.self.now.fits_class in
    let inside = c.args.self.now.class.now.inside in
    let long : length (map f rows) ≡ length rows = simp length-map in
    turn 10000000 (map f rows) c.args.self.now.counts.now c.loop-i.i c.loop-i.sum _ _ (simp c.loop-i.sum-is at c.loop-i.invariant) (lit≤ tt) (omega arith) (omega arith) parts.1 (inside.4 c.args.k) (omega arith) refl (sym (get_or-map f rows c.loop-i.i no_series (pos 0) c.loop-i-test.true))

pub overflow_mul-sum : goal.overflow_mul-sum
overflow_mul-sum c = let t = at_turn c in let f = t.count in let g = t.weight in let h = t.product in simp to_z-of_z h

pub overflow_add-sum : goal.overflow_add-sum
overflow_add-sum c = let t = at_turn c in let f = t.count in let g = t.weight in let h = t.product in simp (c.loop-i.sum-is, to_z-of_z) t.fits

pub loop-i-preserved : goal.loop-i-preserved
loop-i-preserved c = let t = at_turn c in let f = t.count in let g = t.weight in let h = t.product in let k = t.fits in simp (c.loop-i.sum-is, to_z-of_z) t.next

pub returns : goal.returns
unfolding loss
returns c =
    let far : length (map (scenario c.args.k) c.args.self.now.class.now.series.now) ≤ c.loop-i.i = simp length-map c.loop-i-test.false in
    record { value = summed _ _ _ c.loop-i.i _ c.loop-i.invariant far }
