use Rattle.std.proofs.Common.{◌≡◌}
use Rattle.charge.proofs.Parts.{passed, answered}
use Rattle.charge.proofs.minimum.MinimumCharge.amount.Goals as goal

pub returns : goal.returns
returns c =
    let class : c.in_ok-position.position.class.now ≡ c.args.class.now = c.in_ok-position.ensures.class in
    let counts : c.in_ok-position.position.counts.now ≡ c.args.counts.now = c.in_ok-position.ensures.counts in
    let calls = rw (class, counts) at c.shorts-calls.ensures.value in
    let puts = rw (class, counts) at c.shorts-puts.ensures.value in
    record { answer = answered _ _ _ _ _ (passed _ _ _ c.in_ok-position.ensures.answer) (cc) }
