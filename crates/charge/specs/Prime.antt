-- What a position costs by the PRiME method.
use Rattle.std.specs.Prelude.{ℕ, ◌+◌, max, List, ℤ}
use Rattle.sheet.specs.Given.{Terms}
use Rattle.charge.specs.Scanning.{worst}
use Rattle.charge.specs.Spread.{spread}
use Rattle.charge.specs.Minimum.{least}

-- the greater of (scanning plus spread) and the minimum
abbrev pub prime_amount : Terms → List ℤ → ℕ
prime_amount t p = max (worst 16 t.rows p + spread t.spread_rate t.rows p) (least t.minimum_rate t.rows p)
