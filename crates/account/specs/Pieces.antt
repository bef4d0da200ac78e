-- Rule 1 and the first half of rule 2: margined counts, pieces, and their mark to market.
use Rattle.std.specs.Prelude.{ℕ, ◌≤◌, List, [], ◌∷◌, map, length, replicate, ℤ, pos, ◌+ℤ◌, ◌-ℤ◌, ◌*ℤ◌, neg_ℤ, slice_index, slice_index_or, slice_set, unsigned_abs}
use Rattle.std.specs.List.{range_with_len}
use Rattle.terms.specs.declared.words.Basis.{Basis}
use Rattle.terms.specs.declared.words.Basis.TheVariants.{Net, Gross}
use Rattle.sheet.specs.declared.rows.Series.{Series}
use Rattle.sheet.specs.Limits.{worth_of}

-- The margined count of a series is long less short for a net account, and minus the short for a gross one.
abbrev pub margined : Basis → ℕ → ℕ → ℤ
margined Net long short = pos long -ℤ pos short
margined Gross long short = neg_ℤ (pos short)

-- The margined counts of all series, from the long and the short counts.
abbrev pub margined_counts : Basis → List ℕ → List ℕ → List ℤ
margined_counts b [] shorts = []
margined_counts b (l ∷ longs) [] = []
margined_counts b (l ∷ longs) (s ∷ shorts) = margined b l s ∷ margined_counts b longs shorts

-- One series of a position alone, the other counts 0.
abbrev pub single : List ℤ → ℕ → List ℤ
single position k = slice_set (replicate (length position) (pos 0)) k (slice_index_or position k (pos 0))

-- A net account is one piece in each class; a gross account has one piece for each series of the class.
abbrev pub pieces : Basis → List ℤ → List (List ℤ)
pieces Net position = position ∷ []
pieces Gross position = map (single position) (range_with_len 0 (length position))

-- A piece's mark to market is minus the sum of count × price × shares.
abbrev pub mark : List Series → List ℤ → ℤ
mark [] piece = pos 0
mark (r ∷ rows) [] = pos 0
mark (r ∷ rows) (n ∷ piece) = neg_ℤ (n *ℤ pos (worth_of r)) +ℤ mark rows piece

-- The mark to market of a class is that of its pieces together.
abbrev pub marks : List Series → List (List ℤ) → ℤ
marks rows [] = pos 0
marks rows (p ∷ ps) = mark rows p +ℤ marks rows ps

-- ---- limits that the figures are formed within
-- Each long and each short count is at most 100,000.
abbrev pub Held : List ℕ → List ℕ → Type 0
Held longs shorts = (k : ℕ) → (slice_index longs k ≤ 100000) × (slice_index shorts k ≤ 100000)

-- Each count of a position is at most 3,200,000 in size: 32 accounts of 100,000.
abbrev pub Small : List ℤ → Type 0
Small position = (k : ℕ) → unsigned_abs (slice_index_or position k (pos 0)) ≤ 3200000
