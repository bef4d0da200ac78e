-- What a charge is: its figures in whole cents, never negative, and the labels that it refuses with.
use Rattle.std.specs.Prelude.{◌≡◌, ℕ, ◌+◌, ◌≤◌, max, List, length, replicate, ℤ, pos}
use Rattle.sheet.specs.Given.{Terms}
use Rattle.terms.specs.declared.words.Label.{Label}
use Rattle.terms.specs.declared.words.Label.TheVariants.{Scanning, Minimum, Spread, Sum, Greater}
use Rattle.charge.specs.Positions.{joined}
use Rattle.charge.specs.Answers.{first_blamed}
use Rattle.charge.specs.Scanning.{worst}
use Rattle.charge.specs.Spread.{spread as spread-charge, spread_allowance}
use Rattle.charge.specs.Minimum.{least as least-charge}

-- an amount for a position and an allowance for two, the label of each where it is too large, and the label that a position outside its limits is refused with
pub record Meaning : Type 0 where
  pub charged : Terms → List ℤ → ℕ
  pub allowed : Terms → List ℤ → List ℤ → ℕ
  pub blamed : Terms → List ℤ → Label
  pub faulted : Terms → List ℤ → List ℤ → Label
  pub refuses : Label

-- the empty position has amount 0; the amount of two positions joined is at most their two amounts plus their allowance
pub record Lawful (m : Meaning) : Type 0 where
  pub zero : (t : Terms) (n : ℕ) → m.charged t (replicate n (pos 0)) ≡ 0
  pub join : (t : Terms) (p q : List ℤ) → length p ≡ length q → m.charged t (joined p q) ≤ m.charged t p + m.charged t q + m.allowed t p q

-- scanning: the largest of the sixteen losses and 0; no allowance
abbrev pub scanning : Meaning
scanning = record {
  charged = λ t p. worst 16 t.rows p;
  allowed = λ t p q. 0;
  blamed = λ t p. Scanning;
  faulted = λ t p q. Scanning;
  refuses = Scanning;
}

-- spread: the smaller of the two totals at the spread rate; the allowance is what the leans cross by
abbrev pub spreading : Meaning
spreading = record {
  charged = λ t p. spread-charge t.spread_rate t.rows p;
  allowed = λ t p q. spread_allowance t.spread_rate t.rows p q;
  blamed = λ t p. Spread;
  faulted = λ t p q. Spread;
  refuses = Spread;
}

-- minimum: the greater sum of short counts at the minimum rate; no allowance
abbrev pub minimum : Meaning
minimum = record {
  charged = λ t p. least-charge t.minimum_rate t.rows p;
  allowed = λ t p q. 0;
  blamed = λ t p. Minimum;
  faulted = λ t p q. Minimum;
  refuses = Minimum;
}

-- the sum of both figures; the first part is worked out first, and a part's fault goes up whole
abbrev pub summed : Meaning → Meaning → Meaning
summed a b = record {
  charged = λ t p. a.charged t p + b.charged t p;
  allowed = λ t p q. a.allowed t p q + b.allowed t p q;
  blamed = λ t p. first_blamed (a.charged t p) (a.blamed t p) (b.charged t p) (b.blamed t p) Sum;
  faulted = λ t p q. first_blamed (a.allowed t p q) (a.faulted t p q) (b.allowed t p q) (b.faulted t p q) Sum;
  refuses = a.refuses;
}

-- the greater of both figures, likewise
abbrev pub greater : Meaning → Meaning → Meaning
greater a b = record {
  charged = λ t p. max (a.charged t p) (b.charged t p);
  allowed = λ t p q. max (a.allowed t p q) (b.allowed t p q);
  blamed = λ t p. first_blamed (a.charged t p) (a.blamed t p) (b.charged t p) (b.blamed t p) Greater;
  faulted = λ t p q. first_blamed (a.allowed t p q) (a.faulted t p q) (b.allowed t p q) (b.faulted t p q) Greater;
  refuses = a.refuses;
}

-- PRiME's charge: the greater of (scanning plus spread) and the minimum
abbrev pub prime_meaning : Meaning
prime_meaning = greater (summed scanning spreading) minimum
