-- The largest loss, scenario by scenario: no loss is above it, and it is one of them or 0.
use Rattle.std.proofs.Common.{◌≡◌, ℕ, ◌++◌, ◌<◌, ◌≤◌, ◌⊎◌, ◌≤ℤ◌, zero, suc, inl, inr, ⊎_elim, List, [], ◌∷◌, map, max, pos, negsuc, ℤ, fold, add-one, zero-add, refl, ap, ◌∙◌, arith}
use borrow.Author.Differences.{up, ints}
use Rattle.std.specs.Int.{int_max}
use Rattle.std.specs.List.{range_with_len}
use Rattle.std.proofs.lemmas.Bool.{cases_lt}
use Rattle.std.proofs.lemmas.Bool.Decides.{nat_tests}
use Rattle.std.proofs.lemmas.List.FromFn.{map-range_with_len_more}
use Rattle.std.proofs.lemmas.List.Sums.{fold_push}
use Rattle.sheet.specs.declared.rows.Series.{Series}
use Rattle.charge.specs.Scanning.{loss, worst}
use Rattle.charge.specs.Sizes.{one_part}

max_up : (a : ℕ) (z : ℤ) → int_max (pos a) z ≡ pos (max a (up z))
max_up a (pos n) = grind (arith, nat_tests)
max_up a (negsuc n) = ap pos (omega arith)

-- the running maximum
pub worst_is : (n : ℕ) (rows : List Series) (p : List ℤ) → fold int_max (pos 0) (map (λ k. loss k rows p) (range_with_len 0 n)) ≡ pos (worst n rows p)
unfolding worst
worst_is zero rows p = refl
worst_is (suc n) rows p =
    let f : ℕ → ℤ = λ k. loss k rows p in
    let more : map f (range_with_len 0 (suc n)) ≡ map f (range_with_len 0 n) ++ f n ∷ [] = rw add-one at (map-range_with_len_more f 0 n n (zero-add n)) in
    ap (fold int_max (pos 0)) more ∙ fold_push int_max (pos 0) (map f (range_with_len 0 n)) (f n) ∙ ap (λ z. int_max z (f n)) (worst_is n rows p) ∙ max_up (worst n rows p) (f n)

-- the last scenario, or one before it
pub worst_covers : (n : ℕ) (rows : List Series) (p : List ℤ) (k : ℕ) → k < n → loss k rows p ≤ℤ pos (worst n rows p)
unfolding worst
worst_covers zero rows p k h = absurd (omega arith)
worst_covers (suc n) rows p k h = last (worst_covers n rows p k) (cases_lt k n)
  where
    last : (k < n → loss k rows p ≤ℤ pos (worst n rows p)) → (k < n) ⊎ (n ≤ k) → loss k rows p ≤ℤ pos (worst (suc n) rows p)
    last f (inl l) = let e = f l in omega (arith, ints)
    last f (inr l) = let e : k ≡ n = omega arith in rw e (omega (arith, ints))

pub worst_reached : (n : ℕ) (rows : List Series) (p : List ℤ) → (worst n rows p ≡ 0) ⊎ ((k : ℕ) × (k < n) × (pos (worst n rows p) ≡ loss k rows p))
unfolding worst
worst_reached zero rows p = inl refl
worst_reached (suc n) rows p =
    ⊎_elim
    (λ l. inr (n, omega arith, ⊎_elim (λ e. absurd (omega arith)) (λ e. omega (arith, ints)) (one_part (loss n rows p))))
    (λ l. ⊎_elim (λ e. inl (omega arith)) (λ w. inr (w.0, omega (arith, w.1), let e = w.2 in omega (arith, ints))) (worst_reached n rows p))
    (cases_lt (worst n rows p) (up (loss n rows p)))
