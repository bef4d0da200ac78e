-- The spread charge: what long and short months have in common, at the spread rate.
use Rattle.std.specs.Prelude.{ℕ, zero, suc, ◌+◌, ◌*◌, min, max, Bool, cond, List, map, length, take, ℤ, pos, ◌-ℤ◌, Option, ◌==◌, slice_index}
use borrow.Author.Differences.{up, down}
use Rattle.std.specs.List.{list_any}
use Rattle.std.specs.Option.{unwrap_or}
use Rattle.sheet.specs.declared.rows.Series.{Series}
use Rattle.charge.specs.Positions.{dot}

-- a month's delta: count × composite delta, added over the series of that month
abbrev pub month_delta_of : ℕ → Series → ℤ
month_delta_of m r = cond (r.key.month == m) r.delta (pos 0)

unfoldable pub month_delta : ℕ → List Series → List ℤ → ℤ
month_delta m rows p = dot (map (month_delta_of m) rows) p

-- each month is told once, at the first of its series
abbrev pub month_of : Series → ℕ
month_of r = r.key.month

abbrev pub month_at : ℕ → List Series → ℕ
month_at i rows = slice_index (map month_of rows) i

abbrev pub seen : ℕ → List Series → Bool
seen m rows = list_any (λ r. r.key.month == m) rows

-- the long total adds the positive month deltas: here those of the months of the first i series
unfoldable pub long : ℕ → List Series → List ℤ → ℕ
long zero rows p = 0
long (suc i) rows p = long i rows p + cond (seen (month_at i rows) (take i rows)) 0 (up (month_delta (month_at i rows) rows p))

-- the short total adds the negative ones without their sign
unfoldable pub short : ℕ → List Series → List ℤ → ℕ
short zero rows p = 0
short (suc i) rows p = short i rows p + cond (seen (month_at i rows) (take i rows)) 0 (down (month_delta (month_at i rows) rows p))

-- amount: the smaller total × spread rate; where no rate is published the rate is 0
abbrev pub spread : Option ℕ → List Series → List ℤ → ℕ
spread rate rows p = min (long (length rows) rows p) (short (length rows) rows p) * unwrap_or rate 0

-- the lean: the long total less the short total
unfoldable pub lean : List Series → List ℤ → ℤ
lean rows p = pos (long (length rows) rows p) -ℤ pos (short (length rows) rows p)

-- the smaller of two leans without sign if they have opposite signs, else 0
abbrev pub crossing : ℤ → ℤ → ℕ
crossing x y = max (min (up x) (down y)) (min (down x) (up y))

-- allowance: what the two leans cross by × spread rate
abbrev pub spread_allowance : Option ℕ → List Series → List ℤ → List ℤ → ℕ
spread_allowance rate rows p q = crossing (lean rows p) (lean rows q) * unwrap_or rate 0
