-- What a search by halves finds in rows in order.
use Rattle.std.proofs.Common.{◌≡◌, ℕ, ◌≤◌, ◌<◌, Bool, true, false, List, [], ◌∷◌, length, get_or, Less, None, Ok, Err, Result, ◌+◌, ◌∙◌, refl, ap, sym, subst, ⊎_elim, arith}
use Rattle.std.specs.Cmp.{nat_cmp_total}
use Rattle.std.specs.Cmp.Lexicographic.{lists_total}
use Rattle.std.specs.List.{prefix_len}
use Rattle.std.specs.List.Sorted.{IsBinarySearchResult, IsNonDecreasingBy, IsPartitionPoint, IsPartitionedBy, IsSearchInRange}
use Rattle.std.specs.Ordering.{is_lt, is_eq, ordering_index, ordering_reverse}
use Rattle.std.specs.Result.{result_ok}
use Rattle.std.proofs.lemmas.Bool.{cases_lt, cond-false, le-ltb}
use Rattle.std.proofs.lemmas.List.Sums.{position_or_len_is, prefix_len_is}
use Rattle.std.proofs.lemmas.List.Sorted.{searchable_from_sorted}
use Rattle.std.proofs.lemmas.Map.Keys.{Less-from_sorted}
use Rattle.terms.specs.Order.{order}
use Rattle.register.specs.Rows.{place, misses, sought, Ascending}
use Rattle.register.proofs.Search.{found_sought, same_from_order}
use Rattle.register.proofs.Sorted.{less}

-- ---- a test that no row passes after one that fails it
module _ {R : Type 0} (p : R → Bool) where
  -- where it turns, as many rows in front pass it
  front_at_turn : (rows : List R) (i : ℕ) → i ≤ length rows → IsPartitionPoint (λ x. p x ≡ true) (λ x. p x ≡ false) rows i → i ≡ prefix_len p rows
  front_at_turn [] i le point = omega arith
  front_at_turn (x ∷ rows) i le point = sym (prefix_len_is p (x ∷ rows) i x le (λ k lt. point.0 k x (omega arith) lt) (λ lt. point.1 i x (omega arith) lt))

  module _ (rows : List R) (i : ℕ) (le : i ≤ length rows) where
    -- so a search for the turn counts the rows in front
    pub front_counted : (IsPartitionedBy p rows → IsPartitionPoint (λ x. p x ≡ true) (λ x. p x ≡ false) rows i) →
        ((a b : ℕ) (d : R) → a < b → b < length rows → p (get_or rows b d) ≡ true → p (get_or rows a d) ≡ true) → i ≡ prefix_len p rows
    front_counted point h = front_at_turn rows i le (point (λ a b d l within e.
        ⊎_elim (λ lt. h a b d lt within e) (λ ge. subst (λ n. p (get_or rows n d) ≡ true) {x = b} {y = a} (omega arith) e) (cases_lt a b)))

-- ---- the rows before a key
module _ {R : Type 0} (rank : R → List ℕ) (k : List ℕ) (rows : List R) (up : Ascending rank rows) where
  in_order : (a b : ℕ) (d : R) → a < b → b < length rows → order (rank (get_or rows a d)) (rank (get_or rows b d)) ≡ Less
  in_order a b d lt within = Less-from_sorted (λ x y. order (rank x) (rank y)) rows a b d up lt within

  abbrev below : R → Bool
  below x = is_lt (order (rank x) k)

  pub place_counted : (i : ℕ) → i ≤ length rows → (IsPartitionedBy below rows → IsPartitionPoint (λ x. below x ≡ true) (λ x. below x ≡ false) rows i) → i ≡ place rank k rows
  place_counted i le point = front_counted below rows i le point (λ a b d lt within e. ap is_lt ((lists_total nat_cmp_total).trans _ _ k (in_order a b d lt within) (less _ e)))

  ranks_rise : IsNonDecreasingBy (λ x. ordering_index (order (rank x) k)) rows
  ranks_rise = searchable_from_sorted (lists_total nat_cmp_total) rank rows k (λ i d low within.
      let x = get_or rows i d in
      let y = get_or rows (i + 1) d in
      ap is_lt ((lists_total nat_cmp_total).antisymm (rank y) (rank x) ∙ ap ordering_reverse (in_order i (i + 1) d (omega arith) within)))

-- ---- the row that has it
module _ {R : Type 0} (rank : R → List ℕ) (k : List ℕ) where
  none_sought : (rows : List R) → ((i : ℕ) (d : R) → i < length rows → is_eq (order (rank (get_or rows i d)) k) ≡ false) → None ≡ sought rank k rows
  none_sought [] none = refl
  none_sought (x ∷ rows) none =
      let all = position_or_len_is (λ y. is_eq (order (rank y) k)) (x ∷ rows) (length (x ∷ rows)) x (omega arith) (λ i lt. none i x lt) (λ lt. absurd (omega arith)) in
      sym (cond-false _ _ None (le-ltb (misses rank k (x ∷ rows)) (length (x ∷ rows)) (omega arith)))

  pub found_by_halves : (rows : List R) → Ascending rank rows → (r : Result ℕ ℕ) → IsSearchInRange r (length rows) → IsBinarySearchResult (λ x. order (rank x) k) rows r → result_ok r ≡ sought rank k rows
  found_by_halves [] up (Ok i) within equal = absurd (omega arith)
  found_by_halves (x ∷ rows) up (Ok i) within equal = sym ((found_sought rank k (x ∷ rows) up).only i x within (same_from_order _ _ (ap is_eq (equal x))))
  found_by_halves rows up (Err i) within parted =
      let gap = parted (ranks_rise rank k rows up) in
      none_sought rows (λ j d lt. ⊎_elim (λ l. ap is_eq (gap.0 j d (omega arith) l)) (λ g. ap is_eq (gap.1 j d g lt)) (cases_lt j i))
