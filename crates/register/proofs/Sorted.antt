-- The test that a list is in order, and the fact.
use Rattle.std.proofs.Common.{◌≡◌, ◌+◌, Bool, true, false, T, Decides, List, [], ◌∷◌, Ordering, Less, Equal, Greater, refl, sym, ap, ◌∙◌, arith}
use Rattle.std.specs.Cmp.{IsTotalOrder}
use Rattle.std.specs.List.{AllByRecursion as All, IsAllAdjacentAnswer, list_all}
use Rattle.std.specs.List.Sorted.{IsStrictlySortedBy}
use Rattle.std.specs.Ordering.{is_lt}
use Rattle.std.proofs.ByRecursion.{All-weaker}
use Rattle.std.proofs.lemmas.Bool.{and_parts, and_from, true≢false}
use Rattle.std.proofs.lemmas.Map.Keys.{Less-from_sorted, sorted_from_all_adjacent}
use Rattle.register.specs.Rows.{is_strictly_sorted_by}

pub less : (o : Ordering) → is_lt o ≡ true → o ≡ Less
less Less e = refl
less Equal e = absurd (true≢false (sym e))
less Greater e = absurd (true≢false (sym e))

is_true : (b : Bool) → T b → b ≡ true
is_true true h = refl
is_true false h = absurd h

is_T : (b : Bool) → b ≡ true → T b
is_T b e = rw e tt

no_pass : (b : Bool) → (b ≡ true → ⊥) → false ≡ b
no_pass true n = absurd (n refl)
no_pass false n = refl

module _ {K : Type 0} (p : K → Bool) where
  all_from_pass : (xs : List K) → list_all p xs ≡ true → All (λ x. p x ≡ true) xs
  all_from_pass [] e = tt
  all_from_pass (x ∷ xs) e = let s = and_parts _ _ e in (s.0, all_from_pass xs s.1)

  pass_from_all : (xs : List K) → All (λ x. p x ≡ true) xs → list_all p xs ≡ true
  pass_from_all [] h = refl
  pass_from_all (x ∷ xs) h = and_from _ _ h.0 (pass_from_all xs h.1)

module _ {K : Type 0} (c : K → K → Ordering) where
  pub sorted_from_test : (xs : List K) → T (is_strictly_sorted_by c xs) → IsStrictlySortedBy c xs
  unfolding IsStrictlySortedBy
  sorted_from_test [] h = tt
  sorted_from_test (x ∷ xs) h =
      let s = and_parts (list_all (λ y. is_lt (c x y)) xs) (is_strictly_sorted_by c xs) (is_true _ h) in
      (All-weaker _ _ (λ y. less (c x y)) xs (all_from_pass (λ y. is_lt (c x y)) xs s.0), sorted_from_test xs (is_T _ s.1))

  pub test_from_sorted : (xs : List K) → IsStrictlySortedBy c xs → T (is_strictly_sorted_by c xs)
  unfolding IsStrictlySortedBy
  test_from_sorted [] h = tt
  test_from_sorted (x ∷ xs) h =
      let first = pass_from_all (λ y. is_lt (c x y)) xs (All-weaker _ _ (λ y e. ap is_lt e) xs h.0) in
      is_T _ (and_from (list_all (λ y. is_lt (c x y)) xs) (is_strictly_sorted_by c xs) first (is_true _ (test_from_sorted xs h.1)))

  pub test_decides : (xs : List K) → Decides (is_strictly_sorted_by c xs) (IsStrictlySortedBy c xs)
  test_decides xs = (λ e. sorted_from_test xs (is_T _ e), λ s. is_true _ (test_from_sorted xs s))

  -- in an order, each element against the next is enough
  pub next_enough : IsTotalOrder c → (r : Bool) (xs : List K) → IsAllAdjacentAnswer (λ x y b. b ≡ is_lt (c x y)) xs r → r ≡ is_strictly_sorted_by c xs
  next_enough o true [] h = refl
  next_enough o true (x ∷ xs) h = sym ((test_decides (x ∷ xs)).1 (sorted_from_all_adjacent o (x ∷ xs) x (λ k lt. less _ (sym (h k x lt)))))
  next_enough o false [] h = absurd (omega (arith, h.1))
  next_enough o false (x ∷ xs) h =
      no_pass _ (λ e. true≢false (sym (ap is_lt (Less-from_sorted c (x ∷ xs) h.0 (h.0 + 1) x ((test_decides (x ∷ xs)).0 e) (omega arith) h.1)) ∙ sym (h.2 x)))
