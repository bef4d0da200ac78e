-- A position: signed contract counts for the series of one class, in their order, shorts negative.
use Rattle.std.specs.Prelude.{ℕ, Bool, ◌&&◌, List, [], ◌∷◌, length, ℤ, pos, ◌+ℤ◌, ◌*ℤ◌, ◌==◌, nat_le, unsigned_abs}
use Rattle.std.specs.List.{list_all}

-- two positions joined: the counts added series by series
abbrev pub joined : List ℤ → List ℤ → List ℤ
joined [] q = []
joined (m ∷ p) [] = []
joined (m ∷ p) (n ∷ q) = (m +ℤ n) ∷ joined p q

-- each count is at most 3,200,000 in size
abbrev pub counts_fit : List ℤ → Bool
counts_fit p = list_all (λ n. nat_le (unsigned_abs n) 3200000) p

-- a position of a class of n series: one count for each, none beyond its limit
abbrev pub fits : ℕ → List ℤ → Bool
fits n p = length p == n && counts_fit p

-- each count times the weight that stands at its place, added up
abbrev pub dot : List ℤ → List ℤ → ℤ
dot [] p = pos 0
dot (w ∷ ws) [] = pos 0
dot (w ∷ ws) (n ∷ p) = (n *ℤ w) +ℤ dot ws p
