-- What holds of each charge by itself, and that PRiME's is lawful.
use Rattle.std.proofs.Common.{inl, inr, ⊎_elim, arith}
use Rattle.std.proofs.lemmas.Bool.{cases_lt}
use Rattle.charge.specs.Meanings.{Lawful, scanning, spreading, minimum, summed, prime_meaning}
use Rattle.charge.specs.Lawful.{scanning_lawful, spreading_lawful, minimum_lawful, summed_lawful, greater_lawful}
use Rattle.charge.specs.Laws.{ScanningLaw, SpreadLaw, GreaterLaw}
use Rattle.charge.proofs.Losses.{worst_covers, worst_reached}
use Rattle.charge.proofs.Sides.{spread_one}

pub prime_lawful : Lawful prime_meaning
prime_lawful = greater_lawful (summed scanning spreading) minimum (summed_lawful scanning spreading scanning_lawful spreading_lawful) minimum_lawful

pub scanning_law : ScanningLaw
scanning_law t p = (λ k h. worst_covers 16 t.rows p k h, worst_reached 16 t.rows p)

pub spread_law : SpreadLaw
spread_law t m h p = spread_one t.spread_rate m t.rows h p

pub greater_law : GreaterLaw
greater_law a b t p = (omega arith, omega arith, ⊎_elim (λ l. inr (omega arith)) (λ l. inl (omega arith)) (cases_lt (a.charged t p) (b.charged t p)))
