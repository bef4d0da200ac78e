-- The scanning charge: the largest of sixteen losses and 0.
use Rattle.std.specs.Prelude.{ℕ, zero, suc, max, List, map, ℤ}
use borrow.Author.Differences.{up}
use Rattle.sheet.specs.Limits.{scenario}
use Rattle.sheet.specs.declared.rows.Series.{Series}
use Rattle.charge.specs.Positions.{dot}

-- a scenario's loss: count × array value, added over the class's series
unfoldable pub loss : ℕ → List Series → List ℤ → ℤ
loss k rows p = dot (map (scenario k) rows) p

-- the largest of 0 and the losses of the first k scenarios
unfoldable pub worst : ℕ → List Series → List ℤ → ℕ
worst zero rows p = 0
worst (suc k) rows p = max (worst k rows p) (up (loss k rows p))
