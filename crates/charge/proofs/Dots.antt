-- Counts times weights, added up: what one turn of a loop adds, and what the loop keeps.
use Rattle.std.proofs.Common.{◌≡◌, ℕ, ◌+◌, ◌*◌, ◌<◌, ◌≤◌, true, List, [], ◌∷◌, zero, suc, mul-le-mul_right, length, get_or, drop, pos, ◌+ℤ◌, ◌*ℤ◌, ℤ, ◌==◌, nat_le, nat_abs, FitsSigned, add-mul, arith, w64}
use borrow.Author.Differences.{ints}
use Rattle.std.proofs.lemmas.Bool.{and_parts, leb-true, eqb-true}
use Rattle.std.proofs.lemmas.Int.{unsigned_abs-mul}
use Rattle.std.proofs.lemmas.List.{drop_more, at_drop_all}
use Rattle.std.proofs.lemmas.Nat.{mul-le}
use Rattle.terms.specs.declared.words.Kind.TheVariants.{Call}
use Rattle.sheet.specs.Limits.{Within}
use Rattle.sheet.specs.declared.rows.Series.{Series}
use Rattle.charge.specs.Positions.{counts_fit, fits, dot}

-- what a read past the end would give, as the checker writes it
abbrev pub no_series : Series
no_series = record { key = record { class = record { first = 0; second = 0; third = 0 }; month = 0; kind = Call; strike = 0 }; price = 0; shares = 0; delta = pos 0; array = [] }

-- a position that fits: its length, its counts
pub fits_parts : (n : ℕ) (p : List ℤ) → fits n p ≡ true → (length p ≡ n) × Within 3200000 p
fits_parts n p e =
    let parts = and_parts (length p == n) (counts_fit p) e in
    (eqb-true (length p) n parts.0, within p parts.1)
  where
    within : (q : List ℤ) → counts_fit q ≡ true → Within 3200000 q
    within [] h i = omega arith
    within (n ∷ q) h zero = leb-true (nat_abs n) 3200000 (and_parts _ _ h).0
    within (n ∷ q) h (suc i) = within q (and_parts (nat_le (nat_abs n) 3200000) _ h).1 i

module _ (m : ℕ) (ws p : List ℤ) where
  -- the sum after i turns
  pub record Summed (i : ℕ) (sum : ℤ) : Type 0 where
    pub bound : nat_abs sum ≤ i * (3200000 * m)
    pub rest : sum +ℤ dot (drop i ws) (drop i p) ≡ dot ws p

  -- the turn that adds the count n times the weight w
  pub record Turn (i : ℕ) (sum n w : ℤ) : Type 0 where
    pub count : FitsSigned w64 n
    pub weight : FitsSigned w64 w
    pub product : FitsSigned w64 (n *ℤ w)
    pub fits : FitsSigned w64 (sum +ℤ (n *ℤ w))
    pub next : Summed (i + 1) (sum +ℤ (n *ℤ w))

  pub turn : (i : ℕ) (sum n w : ℤ) → Summed i sum → m ≤ 10000000 → length ws ≤ 128 → length p ≡ length ws → Within 3200000 p → Within m ws → i < length ws →
      n ≡ get_or p i (pos 0) → w ≡ get_or ws i (pos 0) → Turn i sum n w
  turn i sum n w s l short same ps wss h d e =
      let a : nat_abs n ≤ 3200000 = rw d (ps i) in
      let b : nat_abs w ≤ m = rw e (wss i) in
      let c : nat_abs (n *ℤ w) ≤ 3200000 * m = rw (unsigned_abs-mul n w) (mul-le (nat_abs n) (nat_abs w) 3200000 m a b) in
      let most : (i + 1) * (3200000 * m) ≤ 128 * (3200000 * m) = mul-le-mul_right (3200000 * m) (omega arith) in
      let k : dot (drop i ws) (drop i p) ≡ (n *ℤ w) +ℤ dot (drop (i + 1) ws) (drop (i + 1) p) = rw (drop_more ws i (pos 0) h, drop_more p i (pos 0) (omega arith), d, e) in
      record {
        count = omega (arith, ints);
        weight = omega (arith, ints);
        product = omega (arith, ints);
        fits = omega (arith, ints);
        next = record { bound = omega (arith, ints, add-mul i 1 (3200000 * m)); rest = omega (arith, ints) };
      }

  pub summed : (i : ℕ) (sum : ℤ) → Summed i sum → length ws ≤ i → sum ≡ dot ws p
  summed i sum s h = let e = at_drop_all (λ vs. dot vs (drop i p)) ws i h in omega (arith, ints)
