-- The series of a class stand together, since rows are in order of class first.
use Rattle.std.proofs.Common.{◌≡◌, ℕ, suc, ◌+◌, ◌-◌, ◌≤◌, ◌<◌, true, false, cond, not, List, [], ◌∷◌, length, get_or, take, drop, pos, filter, Ordering, Less, Equal, Greater, sym, refl, ap, ◌∙◌, subst, one-add, arith}
use Rattle.std.specs.Cmp.{nat_cmp_total}
use Rattle.std.specs.Ordering.{is_lt, is_eq, is_gt, ordering_then, ordering_reverse, nat_cmp}
use Rattle.std.specs.List.Sorted.{IsStrictlySortedBy, IsPartitionedBy, IsPartitionPoint}
use Rattle.std.specs.List.{prefix_len, AllByRecursion as All}
use Rattle.std.proofs.ByRecursion.{All-weaker}
use Rattle.std.proofs.lemmas.Bool.{true≢false}
use Rattle.std.proofs.lemmas.Map.Keys.{Less-from_sorted}
use Rattle.terms.specs.Order.{order}
use Rattle.terms.specs.Codes.{lettered}
use Rattle.terms.specs.Words.{kind_number}
use Rattle.terms.specs.declared.codes.Code.{Code}
use Rattle.terms.specs.declared.words.Kind.TheVariants.{Call}
use Rattle.register.specs.Rows.{Ascending}
use Rattle.register.proofs.Halves.{front_counted}
use Rattle.sheet.specs.declared.rows.Series.{Series}
use Rattle.sheet.specs.Rows.{series_rank, series_class, of_class, before, before_class, through_class, through, beside, Spanned}
use Rattle.std.proofs.lemmas.List.Sums.{prefix_len-le-length}
use Rattle.std.specs.Cmp.Lexicographic.{lists_total}

-- ---- rows whose answers rise: those that answer `Equal` stand together
abbrev Rises : Ordering → Ordering → Type 0
Rises Less o = Unit {0}
Rises Equal Less = ⊥
Rises Equal Equal = Unit {0}
Rises Equal Greater = Unit {0}
Rises Greater Less = ⊥
Rises Greater Equal = ⊥
Rises Greater Greater = Unit {0}

abbrev mids_of : {R X : Type 0} → (R → Ordering) → List R → List X → List X
mids_of t [] ns = []
mids_of t (x ∷ xs) [] = []
mids_of t (x ∷ xs) (n ∷ ns) = cond (is_eq (t x)) (n ∷ mids_of t xs ns) (mids_of t xs ns)

cut_at : {X : Type 0} (o : Ordering) (l m : List X) → Rises Greater o → cond (is_eq o) l m ≡ m
cut_at Less l m h = absurd h
cut_at Equal l m h = absurd h
cut_at Greater l m h = refl

module _ {R : Type 0} (t : R → Ordering) where
  abbrev low : List R → ℕ
  low rows = prefix_len (λ x. is_lt (t x)) rows

  abbrev high : List R → ℕ
  high rows = prefix_len (λ x. not (is_gt (t x))) rows

  abbrev mid : List R → List R
  mid rows = filter (λ x. is_eq (t x)) rows

  pub Rising : List R → Type 0
  Rising [] = Unit {0}
  Rising (x ∷ xs) = All (λ y. Rises (t x) (t y)) xs × Rising xs

  none_low_at : (o : Ordering) (n : ℕ) → Rises Equal o → cond (is_lt o) n 0 ≡ 0
  none_low_at Less n h = absurd h
  none_low_at Equal n h = refl
  none_low_at Greater n h = refl

  none_low : (xs : List R) → All (λ y. Rises Equal (t y)) xs → low xs ≡ 0
  none_low [] h = refl
  none_low (x ∷ xs) h = none_low_at (t x) (1 + low xs) h.0

  none_mid_at : (o : Ordering) (l m : List R) → Rises Greater o → cond (is_eq o) l m ≡ m
  none_mid_at Less l m h = absurd h
  none_mid_at Equal l m h = absurd h
  none_mid_at Greater l m h = refl

  none_mid : (xs : List R) → All (λ y. Rises Greater (t y)) xs → mid xs ≡ []
  none_mid [] h = refl
  none_mid (x ∷ xs) h = none_mid_at (t x) (x ∷ mid xs) (mid xs) h.0 ∙ none_mid xs h.1

  step : (x : R) (xs : List R) (o : Ordering) → All (λ y. Rises o (t y)) xs → (low xs ≤ high xs) × (take (high xs - low xs) (drop (low xs) xs) ≡ mid xs) →
      (cond (is_lt o) (1 + low xs) 0 ≤ cond (not (is_gt o)) (1 + high xs) 0)
      × (take (cond (not (is_gt o)) (1 + high xs) 0 - cond (is_lt o) (1 + low xs) 0) (drop (cond (is_lt o) (1 + low xs) 0) (x ∷ xs)) ≡ cond (is_eq o) (x ∷ mid xs) (mid xs))
  step x xs Less h rec =
      let e : (1 + high xs) - (1 + low xs) ≡ high xs - low xs = omega arith in
      (omega (arith, rec.0), rw (e, one-add (low xs)) rec.1)
  step x xs Equal h rec =
      let z : low xs ≡ 0 = none_low xs h in
      let e : (1 + high xs) - 0 ≡ suc (high xs - low xs) = omega arith in
      (omega arith, rw e (ap (λ l. x ∷ l) (subst (λ n. take (high xs - low xs) (drop n xs) ≡ mid xs) z rec.1)))
  step x xs Greater h rec = (omega arith, sym (none_mid xs h))

  pub together : (rows : List R) → Rising rows → (low rows ≤ high rows) × (take (high rows - low rows) (drop (low rows) rows) ≡ mid rows)
  unfolding Rising
  together [] h = (omega arith, refl)
  together (x ∷ xs) h = step x xs (t x) h.0 (together xs h.1)

  none_mids : {X : Type 0} (xs : List R) (ns : List X) → All (λ y. Rises Greater (t y)) xs → (mids_of t xs ns) ≡ []
  none_mids [] ns h = refl
  none_mids (x ∷ xs) [] h = refl
  none_mids (x ∷ xs) (n ∷ ns) h = cut_at (t x) (n ∷ mids_of t xs ns) (mids_of t xs ns) h.0 ∙ none_mids xs ns h.1

  step_beside : {X : Type 0} (n : X) (x : R) (xs : List R) (ns : List X) (o : Ordering) → All (λ y. Rises o (t y)) xs → low xs ≤ high xs → take (high xs - low xs) (drop (low xs) ns) ≡ mids_of t xs ns →
      take (cond (not (is_gt o)) (1 + high xs) 0 - cond (is_lt o) (1 + low xs) 0) (drop (cond (is_lt o) (1 + low xs) 0) (n ∷ ns)) ≡ cond (is_eq o) (n ∷ mids_of t xs ns) (mids_of t xs ns)
  step_beside n x xs ns Less h le rec =
      let e : (1 + high xs) - (1 + low xs) ≡ high xs - low xs = omega arith in
      rw (e, one-add (low xs)) rec
  step_beside n x xs ns Equal h le rec =
      let z : low xs ≡ 0 = none_low xs h in
      let e : (1 + high xs) - 0 ≡ suc (high xs - low xs) = omega arith in
      rw e (ap (λ l. n ∷ l) (subst (λ k. take (high xs - low xs) (drop k ns) ≡ mids_of t xs ns) z rec))
  step_beside n x xs ns Greater h le rec = sym (none_mids xs ns h)

  pub together_beside : {X : Type 0} (rows : List R) (ns : List X) → Rising rows → length ns ≡ length rows → take (high rows - low rows) (drop (low rows) ns) ≡ mids_of t rows ns
  unfolding Rising
  together_beside [] ns h e = refl
  together_beside (x ∷ xs) [] h e = absurd (omega arith)
  together_beside (x ∷ xs) (n ∷ ns) h e = step_beside n x xs ns (t x) h.0 (together xs h.1).0 (together_beside xs ns h.1 (omega arith))

-- ---- rows in order of key rise in their class
front : (a b c r : Ordering) → ordering_then a (ordering_then b (ordering_then c r)) ≡ Less → ordering_then a (ordering_then b (ordering_then c Equal)) ≡ Greater → ⊥
front Less b c r h g = true≢false (sym (ap is_gt g))
front Greater b c r h g = true≢false (ap is_gt h)
front Equal Less c r h g = true≢false (sym (ap is_gt g))
front Equal Greater c r h g = true≢false (ap is_gt h)
front Equal Equal Less r h g = true≢false (sym (ap is_gt g))
front Equal Equal Greater r h g = true≢false (ap is_gt h)
front Equal Equal Equal r h g = true≢false (sym (ap is_gt g))

front_of : (a b c a' b' c' : ℕ) (xs ys : List ℕ) → order (a ∷ b ∷ c ∷ xs) (a' ∷ b' ∷ c' ∷ ys) ≡ Less → order (a ∷ b ∷ c ∷ []) (a' ∷ b' ∷ c' ∷ []) ≡ Greater → ⊥
front_of a b c a' b' c' xs ys h g = front (nat_cmp a a') (nat_cmp b b') (nat_cmp c c') (order xs ys) h g

pub class_first : (x y : Series) → order (series_rank x) (series_rank y) ≡ Less → order (series_class x) (series_class y) ≡ Greater → ⊥
class_first x y h g = front_of x.key.class.first x.key.class.second x.key.class.third y.key.class.first y.key.class.second y.key.class.third (x.key.month ∷ kind_number x.key.kind ∷ x.key.strike ∷ []) (y.key.month ∷ kind_number y.key.kind ∷ y.key.strike ∷ []) h g

rises : (a b k : List ℕ) (p q : Ordering) → order a k ≡ p → order b k ≡ q → (order a b ≡ Greater → ⊥) → Rises p q
rises a b k Less q f g n = tt
rises a b k Equal Less f g n = n ((lists_total nat_cmp_total).congr a k b f ∙ (lists_total nat_cmp_total).antisymm k b ∙ ap ordering_reverse g)
rises a b k Equal Equal f g n = tt
rises a b k Equal Greater f g n = tt
rises a b k Greater Less f g n = n ((lists_total nat_cmp_total).antisymm a b ∙ ap ordering_reverse ((lists_total nat_cmp_total).trans b k a g ((lists_total nat_cmp_total).antisymm k a ∙ ap ordering_reverse f)))
rises a b k Greater Equal f g n = n ((lists_total nat_cmp_total).antisymm a b ∙ ap ordering_reverse ((lists_total nat_cmp_total).congr b k a g ∙ (lists_total nat_cmp_total).antisymm k a ∙ ap ordering_reverse f))
rises a b k Greater Greater f g n = tt

rising_from : (c : Code) (rows : List Series) → IsStrictlySortedBy (λ a b. order (series_rank a) (series_rank b)) rows → Rising (λ s. order (series_class s) (lettered c)) rows
unfolding IsStrictlySortedBy Rising
rising_from c [] s = tt
rising_from c (x ∷ xs) s = (
  All-weaker (λ y. order (series_rank x) (series_rank y) ≡ Less) (λ y. Rises (order (series_class x) (lettered c)) (order (series_class y) (lettered c)))
      (λ y h. rises (series_class x) (series_class y) (lettered c) _ _ refl refl (class_first x y h)) xs s.0,
  rising_from c xs s.1,
)

pub parted : (c : Code) (rows : List Series) → Ascending series_rank rows →
    (before_class c rows ≤ through_class c rows) × (take (through_class c rows - before_class c rows) (drop (before_class c rows) rows) ≡ of_class c rows)
parted c rows up = together (λ s. order (series_class s) (lettered c)) rows (rising_from c rows up)

pub through_within : (c : Code) (rows : List Series) → through_class c rows ≤ length rows
through_within c rows = prefix_len-le-length (through c) rows

-- `beside` is such a choice
beside_is : {X : Type 0} (c : Code) (rows : List Series) (ns : List X) → mids_of (λ s. order (series_class s) (lettered c)) rows ns ≡ beside c rows ns
beside_is c [] ns = refl
beside_is c (s ∷ rows) [] = refl
beside_is c (s ∷ rows) (n ∷ ns) = ap (λ l. cond (is_eq (order (series_class s) (lettered c))) (n ∷ l) l) (beside_is c rows ns)

-- ---- a search by halves ends at those places
low_before : (p q : Ordering) → Rises p q → is_lt q ≡ true → is_lt p ≡ true
low_before Less q h e = refl
low_before Equal Less h e = absurd h
low_before Equal Equal h e = e
low_before Equal Greater h e = e
low_before Greater Less h e = absurd h
low_before Greater Equal h e = absurd h
low_before Greater Greater h e = e

not_high_before : (p q : Ordering) → Rises p q → not (is_gt q) ≡ true → not (is_gt p) ≡ true
not_high_before Less q h e = refl
not_high_before Equal q h e = refl
not_high_before Greater Less h e = absurd h
not_high_before Greater Equal h e = absurd h
not_high_before Greater Greater h e = e

module _ (c : Code) (rows : List Series) (up : Ascending series_rank rows) where
  rises_at : (a b : ℕ) (d : Series) → a < b → b < length rows → Rises (order (series_class (get_or rows a d)) (lettered c)) (order (series_class (get_or rows b d)) (lettered c))
  rises_at a b d lt within =
      let x = get_or rows a d in
      let y = get_or rows b d in
      rises (series_class x) (series_class y) (lettered c) _ _ refl refl (class_first x y (Less-from_sorted (λ r s. order (series_rank r) (series_rank s)) rows a b d up lt within))

  pub first_counted : (i : ℕ) → i ≤ length rows → (IsPartitionedBy (before c) rows → IsPartitionPoint (λ s. before c s ≡ true) (λ s. before c s ≡ false) rows i) → i ≡ before_class c rows
  first_counted i le turn = front_counted (before c) rows i le turn (λ a b d lt within e. low_before _ _ (rises_at a b d lt within) e)

  pub last_counted : (i : ℕ) → i ≤ length rows → (IsPartitionedBy (through c) rows → IsPartitionPoint (λ s. through c s ≡ true) (λ s. through c s ≡ false) rows i) → i ≡ through_class c rows
  last_counted i le turn = front_counted (through c) rows i le turn (λ a b d lt within e. not_high_before _ _ (rises_at a b d lt within) e)

pub spanned : (c : Code) (rows : List Series) → Ascending series_rank rows → Spanned c rows (before_class c rows) (through_class c rows)
spanned c rows up = record {
  ordered = (parted c rows up).0;
  within = through_within c rows;
  series = (parted c rows up).1;
  counts = λ ns e. together_beside (λ s. order (series_class s) (lettered c)) rows ns (rising_from c rows up) e ∙ beside_is c rows ns;
}

-- what a read past the end would give, as the checker writes it
abbrev pub no_series : Series
no_series = record { key = record { class = record { first = 0; second = 0; third = 0 }; month = 0; kind = Call; strike = 0 }; price = 0; shares = 0; delta = pos 0; array = [] }
