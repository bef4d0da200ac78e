use Rattle.std.proofs.Common.{◌≡◌, ◌≤◌, map, length, pos, arith}
use lib.IntN.{*ℤ-zero, +ℤ_idr}
use Rattle.std.proofs.lemmas.Int.{to_z-of_z}
use Rattle.std.proofs.lemmas.Bool.{cond-true, cond-false, eq-eqb, ne_eqb}
use Rattle.std.proofs.lemmas.List.{length_push, length-map}
use Rattle.std.proofs.lemmas.Slice.Zip.{zip_turn, zip_end}
use Rattle.charge.specs.Spread.{month_delta, month_delta_of}
use Rattle.charge.proofs.Dots.{Turn, summed, fits_parts}
use Rattle.charge.proofs.Months.{month_turn}
use Rattle.charge.proofs.positions.Position.month_delta.Goals as goal

-- what the turn adds, in the month and outside it
in_month : (c : goal.After-sum-then-series-month-1) → Turn 100 (map (month_delta_of c.args.month) c.args.self.now.class.now.series.now) c.args.self.now.counts.now (length c.loop-count.yielded) c.loop-count.sum c.in-Some.count.now c.in-Some.series.now.delta
in_month c =
    let me = c.args.self.now in
    let at = zip_turn me.counts.now me.class.now.series.now c.loop-count.yielded c.into_iter-count-iterator.result c.loop-count.count-iterator c.next.new.self c.next.result (cc) (cc) c.loop-count.yielded_by _ c.in-Some.is c.next.ensures.steps in
    let t = month_turn c.args.month me.class.now.series.now me.counts.now (length c.loop-count.yielded) c.loop-count.sum c.in-Some.count.now c.in-Some.series.now (simp c.loop-count.sum-is at c.loop-count.invariant) me.fits_class me.class.now.inside.2 me.class.now.inside.3 at in
    let e : month_delta_of c.args.month c.in-Some.series.now ≡ c.in-Some.series.now.delta = cond-true _ _ _ (eq-eqb _ _ c.if-series-month.true) in
    simp e at t

pub overflow_mul-sum : goal.overflow_mul-sum
overflow_mul-sum c = let t = in_month c in let f = t.count in let g = t.weight in let h = t.product in simp to_z-of_z h

pub overflow_add-sum : goal.overflow_add-sum
overflow_add-sum c = let t = in_month c in let f = t.count in let g = t.weight in let h = t.product in simp (c.loop-count.sum-is, to_z-of_z) t.fits

pub loop-count-preserved-then-series-month : goal.loop-count-preserved-then-series-month
loop-count-preserved-then-series-month c = let t = in_month c in let f = t.count in let g = t.weight in let h = t.product in let k = t.fits in simp (c.loop-count.sum-is, to_z-of_z, length_push) t.next

pub loop-count-preserved : goal.loop-count-preserved
loop-count-preserved c =
    let me = c.args.self.now in
    let at = zip_turn me.counts.now me.class.now.series.now c.loop-count.yielded c.into_iter-count-iterator.result c.loop-count.count-iterator c.next.new.self c.next.result (cc) (cc) c.loop-count.yielded_by _ c.in-Some.is c.next.ensures.steps in
    let t = month_turn c.args.month me.class.now.series.now me.counts.now (length c.loop-count.yielded) c.loop-count.sum c.in-Some.count.now c.in-Some.series.now (simp c.loop-count.sum-is at c.loop-count.invariant) me.fits_class me.class.now.inside.2 me.class.now.inside.3 at in
    let e : month_delta_of c.args.month c.in-Some.series.now ≡ pos 0 = cond-false _ _ _ (ne_eqb _ _ c.if-series-month.false) in
    simp (c.loop-count.sum-is, length_push) (simp (e, *ℤ-zero, +ℤ_idr) at t.next)

pub returns-clause-value : goal.returns-clause-value
unfolding month_delta
returns-clause-value c =
    let me = c.args.self.now in
    let n = zip_end me.counts.now me.class.now.series.now c.loop-count.yielded c.into_iter-count-iterator.result c.loop-count.count-iterator c.next.new.self c.next.result (cc) (cc) c.loop-count.yielded_by c.in-None.is c.next.ensures.steps in
    let parts = fits_parts (length me.class.now.series.now) me.counts.now me.fits_class in
    let far : length (map (month_delta_of c.args.month) me.class.now.series.now) ≤ length c.loop-count.yielded = simp length-map (omega arith) in
    summed _ _ _ (length c.loop-count.yielded) _ c.loop-count.invariant far
