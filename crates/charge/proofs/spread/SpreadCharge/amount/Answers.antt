use Rattle.std.proofs.Common.{◌≡◌}
use Rattle.charge.proofs.Parts.{passed, answered}
use Rattle.charge.proofs.spread.SpreadCharge.amount.Goals as goal

pub returns : goal.returns
returns c =
    let class : c.in_ok-position.position.class.now ≡ c.args.class.now = c.in_ok-position.ensures.class in
    let counts : c.in_ok-position.position.counts.now ≡ c.args.counts.now = c.in_ok-position.ensures.counts in
    let longs = rw (class, counts) at c.sides-longs.ensures.longs in
    let shorts = rw (class, counts) at c.sides-longs.ensures.shorts in
    record { answer = answered _ _ _ _ _ (passed _ _ _ c.in_ok-position.ensures.answer) (cc) }
