-- Counts that are set to 0 from a place on, over any number of them: at the numeral 256 the list would be written out.
use Rattle.std.proofs.Common.{◌≡◌, ℕ, ◌+◌, ◌*◌, ◌<◌, ◌≤◌, List, length, get_or, replicate, ap, ⊎_elim, arith}
use lib.Seq.{paste}
use Rattle.std.proofs.lemmas.Bool.{cases_lt}
use Rattle.std.proofs.lemmas.List.{length-replicate, places}
use Rattle.std.proofs.lemmas.List.Edits.{length-paste}

module _ (n : ℕ) (xs : List ℕ) (at : ℕ) (h : at + n ≤ length xs) where
  pub cleared_length : length (paste xs at (replicate n 0) n) ≡ length xs
  cleared_length = length-paste xs at (replicate n 0) n h (omega (arith, length-replicate {A = ℕ} n 0))

  pub cleared_below : (k : ℕ) → k < at → get_or (paste xs at (replicate n 0) n) k 0 ≡ get_or xs k 0
  cleared_below k l = grind (arith, places)

  pub cleared_within : (k : ℕ) → at ≤ k → k < at + n → get_or (paste xs at (replicate n 0) n) k 0 ≡ 0
  cleared_within k l m = grind (arith, places)

pub bounded_open : (a b : ℕ) (xs ys : List ℕ) → ys ≡ paste xs (a * 256) (replicate 256 0) 256 → b ≡ a + 1 → a * 256 + 256 ≤ length xs
    → ((k : ℕ) → k < a * 256 → get_or xs k 0 ≤ 100000) → (k : ℕ) → k < b * 256 → get_or ys k 0 ≤ 100000
bounded_open a b xs ys e f h was k l =
    let same = ap (λ zs. get_or zs k 0) e in
    ⊎_elim
    (λ (m : k < a * 256). omega (arith, same, cleared_below 256 xs (a * 256) h k m, was k m))
    (λ (m : a * 256 ≤ k). omega (arith, same, cleared_within 256 xs (a * 256) h k m (omega arith)))
    (cases_lt k (a * 256))
