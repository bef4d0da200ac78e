use Rattle.std.proofs.Common.{◌≤◌, length, get_or, set, pos, nat_abs, Err, sym, refl, ap, ◌∙◌, arith, w64, SFits, to_z, of_z, rules}
use Rattle.std.proofs.lemmas.Int.{to_z-of_z}
use Rattle.std.proofs.lemmas.List.{length-set, length-replicate, take-replicate}
use Rattle.std.proofs.lemmas.Result.{err_from_is_err_and}
use Rattle.sheet.specs.Plain.{plain}
use Rattle.charge.proofs.Dots.{fits_parts}
use Rattle.account.proofs.Kit.{sum_fits, sum_back, abs_add}
use Rattle.account.proofs.Charges.{plus_none, cleared}
use Rattle.account.proofs.Joins.{allowance_small, joins_stop, joins_go, joined_go, joins_end, joined_end}
use Rattle.account.proofs.pools.join_gross.Goals as goal

pub loop-i-init : goal.loop-i-init
loop-i-init g c =
    let position = c.args.position.now in
    let z = take-replicate (length position.counts.now) 128 (pos 0) (omega (arith, (fits_parts (length position.class.now.series.now) position.counts.now position.fits_class).0, position.class.now.inside.2)) in
    record { clear = z; long = ap length z ∙ length-replicate (length position.counts.now) (pos 0); bound = omega arith; ahead = plus_none _; after = refl }

pub returns-in_err-total-clause-answer : goal.returns-in_err-total-clause-answer
returns-in_err-total-clause-answer g c =
    let p = err_from_is_err_and c.from_residual.result c.from_residual.ensures.1 in
    let position = c.args.position.now in
    let fits : SFits w64 (get_or position.counts.now c.loop-i.i (pos 0)) = search rules in
    let stop = joins_stop (g.C.Charge.meaning c.args.charge.now) (plain position.class.now) _ position.counts.now c.loop-i.i c.loop-i.pooled c.loop-i.piece _ c.loop-i-test.true c.loop-i.invariant.clear (to_z-of_z w64 _ fits) _ c.in_err-total.ensures.answer in
    p.1 ∙ ap Err p.2 ∙ sym stop ∙ c.loop-i.invariant.ahead

pub overflow_add-total : goal.overflow_add-total
overflow_add-total g c =
    let position = c.args.position.now in
    let x = to_z w64 (of_z w64 (get_or position.counts.now c.loop-i.i (pos 0))) in
    let small = allowance_small (g.C.Charge.meaning c.args.charge.now) (plain position.class.now) c.loop-i.pooled (set c.loop-i.piece c.loop-i.i x) _ c.in_ok-total.ensures.answer in
    sum_fits _ c.in_ok-total.field-0 (omega (arith, c.loop-i.invariant.bound, small, (fits_parts (length position.class.now.series.now) position.counts.now position.fits_class).0, position.class.now.inside.2))

pub loop-i-preserved : goal.loop-i-preserved
loop-i-preserved g c =
    let m = g.C.Charge.meaning c.args.charge.now in
    let position = c.args.position.now in
    let t = plain position.class.now in
    let i = c.loop-i.i in
    let y = c.in_ok-total.field-0 in
    let told = c.in_ok-total.ensures.answer in
    let e = c.loop-i.total-is in
    let inv = rw e at c.loop-i.invariant in
    let fits : SFits w64 (get_or position.counts.now i (pos 0)) = search rules in
    let read = to_z-of_z w64 _ fits in
    let x = to_z w64 (of_z w64 (get_or position.counts.now i (pos 0))) in
    let small : nat_abs y ≤ 100000000000 = allowance_small m t c.loop-i.pooled (set c.loop-i.piece i x) y told in
    let b = sum_back c.loop-i.total y (omega (arith, inv.bound, small, (fits_parts (length position.class.now.series.now) position.counts.now position.fits_class).0, position.class.now.inside.2)) in
    let next = c.join_piece.new.pooled in
    let made = c.in_ok-total.ensures.after in
    let go = joins_go m t c.loop-i.total position.counts.now i c.loop-i.pooled c.loop-i.piece _ c.loop-i-test.true c.loop-i.invariant.clear read next made y told in
    let on = joined_go m t c.loop-i.total position.counts.now i c.loop-i.pooled c.loop-i.piece _ c.loop-i-test.true c.loop-i.invariant.clear read next made in
    record {
      clear = cleared c.loop-i.piece (length position.counts.now) i _ c.loop-i-test.true c.loop-i.invariant.clear;
      long = simp length-set c.loop-i.invariant.long;
      bound = rw (e, b) (omega (arith, abs_add c.loop-i.total y, inv.bound, small));
      ahead = rw (e, b) (sym go ∙ inv.ahead);
      after = sym on ∙ inv.after;
    }

pub returns-clause-answer : goal.returns-clause-answer
returns-clause-answer g c = sym (joins_end (g.C.Charge.meaning c.args.charge.now) (plain c.args.position.now.class.now) _ c.args.position.now.counts.now c.loop-i.i c.loop-i.pooled c.loop-i-test.false) ∙ c.loop-i.invariant.ahead

pub returns-clause-after : goal.returns-clause-after
returns-clause-after g c = sym (joined_end (g.C.Charge.meaning c.args.charge.now) (plain c.args.position.now.class.now) c.loop-i.total c.args.position.now.counts.now c.loop-i.i c.loop-i.pooled c.loop-i-test.false) ∙ c.loop-i.invariant.after
