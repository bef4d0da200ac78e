use Rattle.std.proofs.Common.{◌≡◌, rules, FitsSigned, w64}
use Rattle.std.proofs.lemmas.Int.{to_z-of_z}
use Rattle.std.proofs.lemmas.Bool.{and_from}
use Rattle.charge.proofs.Parts.{passed, answered}
use Rattle.charge.proofs.spread.SpreadCharge.allowance.Goals as goal

pub returns : goal.returns
returns c =
    let one_class : c.in_ok-one.one.class.now ≡ c.args.class.now = c.in_ok-one.ensures.class in
    let one_counts : c.in_ok-one.one.counts.now ≡ c.args.one.now = c.in_ok-one.ensures.counts in
    let other_class : c.in_ok-other.other.class.now ≡ c.args.class.now = c.in_ok-other.ensures.class in
    let other_counts : c.in_ok-other.other.counts.now ≡ c.args.other.now = c.in_ok-other.ensures.counts in
    let first = rw (one_class, one_counts) at c.lean.ensures.value in
    let second = rw (other_class, other_counts) at c.lean-2.ensures.value in
    let f : FitsSigned w64 c.lean.result = search rules in
    let g : FitsSigned w64 c.lean-2.result = search rules in
    let e = simp to_z-of_z at c.crossing_of.ensures.value in
    record { answer = answered _ _ _ _ _ (and_from _ _ (passed _ _ _ c.in_ok-one.ensures.answer) (passed _ _ _ c.in_ok-other.ensures.answer)) (cc) }
