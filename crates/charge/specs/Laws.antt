-- What holds of the charges, for every class and position.
use Rattle.std.specs.Prelude.{◌≡◌, ℕ, ◌<◌, ◌≤◌, ◌⊎◌, List, length, ℤ, pos, ◌≤ℤ◌}
use Rattle.sheet.specs.Given.{Terms}
use Rattle.sheet.specs.declared.rows.Series.{Series}
use Rattle.charge.specs.Scanning.{loss}
use Rattle.charge.specs.Spread.{month_at}
use Rattle.charge.specs.Meanings.{Meaning, scanning, spreading, greater}

-- scanning: the loss of none of the sixteen scenarios is above the amount, and the amount is 0 or the loss of one of them
abbrev pub ScanningLaw : Type 0
ScanningLaw =
    (t : Terms) (p : List ℤ) →
    ((k : ℕ) → k < 16 → loss k t.rows p ≤ℤ pos (scanning.charged t p))
    × ((scanning.charged t p ≡ 0) ⊎ ((k : ℕ) × (k < 16) × (pos (scanning.charged t p) ≡ loss k t.rows p)))

-- every series is of the month m
abbrev pub OfMonth : ℕ → List Series → Type 0
OfMonth m rows = (i : ℕ) → i < length rows → month_at i rows ≡ m

-- spread: where all series of a class are of one month, nothing is charged
abbrev pub SpreadLaw : Type 0
SpreadLaw = (t : Terms) (m : ℕ) → OfMonth m t.rows → (p : List ℤ) → spreading.charged t p ≡ 0

-- the greater of two charges: neither part's amount is above it, and it is one of them
abbrev pub GreaterLaw : Type 0
GreaterLaw =
    (a b : Meaning) (t : Terms) (p : List ℤ) →
    (a.charged t p ≤ (greater a b).charged t p)
    × (b.charged t p ≤ (greater a b).charged t p)
    × (((greater a b).charged t p ≡ a.charged t p) ⊎ ((greater a b).charged t p ≡ b.charged t p))
