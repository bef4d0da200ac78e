-- Sums over the opening numbers below a number of accounts.
use Rattle.std.proofs.Common.{◌≡◌, ◌≢◌, ℕ, zero, suc, ◌+◌, ◌*◌, ◌<◌, ◌≤◌, cond, ◌&&◌, eqb, List, length, get_or, set, add-one, ap, refl, sym, ◌∙◌, ⊎_elim, get_or-set_same, get_or-set_other, arith}
use Rattle.std.proofs.lemmas.Bool.{cases_lt, cases_eq, eq-eqb, ne_eqb}
use Rattle.terms.specs.declared.words.Leg.{Leg}
use Rattle.terms.specs.declared.words.Leg.TheVariants.{Long, Short}
use Rattle.terms.specs.Words.{leg_number}
use Rattle.book.specs.State.{cell}
use Rattle.book.specs.Law.{same_leg}

-- f 0 + .. + f (n - 1)
abbrev pub sum_below : ℕ → (ℕ → ℕ) → ℕ
sum_below zero f = 0
sum_below (suc n) f = sum_below n f + f n

pub sum_more : (n : ℕ) (f : ℕ → ℕ) → sum_below (n + 1) f ≡ sum_below n f + f n
sum_more n f = rw add-one

pub sum_same : (n : ℕ) (f g : ℕ → ℕ) → ((i : ℕ) → i < n → f i ≡ g i) → sum_below n f ≡ sum_below n g
sum_same zero f g h = refl
sum_same (suc n) f g h = let a = sum_same n f g (λ i l. h i (omega arith)) in let b = h n (omega arith) in omega arith

-- one of the numbers that are added up changes
pub sum_changed : (n : ℕ) (f g : ℕ → ℕ) (a : ℕ) → a < n → ((i : ℕ) → i < n → i ≢ a → g i ≡ f i) → sum_below n g + f a ≡ sum_below n f + g a
sum_changed zero f g a l h = absurd (omega arith)
sum_changed (suc n) f g a l h =
    ⊎_elim
    (λ (e : a < n). let r = sum_changed n f g a e (λ i k ne. h i (omega arith) ne) in let t = h n (omega arith) (omega arith) in omega arith)
    (λ (m : n ≤ a). let e : a ≡ n = omega arith in let r = sum_same n g f (λ i k. h i (omega arith) (omega arith)) in let t = ap f e in let u = ap g e in omega arith)
    (cases_lt a n)

-- ---- the counts of one series and leg, in the memory of n accounts
abbrev pub count_below : ℕ → List ℕ → ℕ → Leg → ℕ
count_below n xs j l = sum_below n (λ i. get_or xs (cell i j l) 0)

-- contracts of one series and leg, as they count for another
abbrev pub counted_for : ℕ → Leg → ℕ → Leg → ℕ → ℕ
counted_for k m j l x = cond (eqb k j && same_leg m l) x 0

pub leg_below : (l : Leg) → leg_number l < 2
leg_below Long = omega arith
leg_below Short = omega arith

-- what is added up where one count is set: it changes by that count if it is of the series and the leg, and else not at all
module _ (n : ℕ) (xs : List ℕ) (a k : ℕ) (m : Leg) (v j : ℕ) (l : Leg) (is_open : a < n) (room : n * 256 ≤ length xs) (small : k < 128) (few : j < 128) where
  f : ℕ → ℕ
  f i = get_or xs (cell i j l) 0

  g : ℕ → ℕ
  g i = get_or (set xs (cell a k m) v) (cell i j l) 0

  set_there : cell a k m ≡ cell a j l → count_below n (set xs (cell a k m) v) j l + get_or xs (cell a k m) 0 ≡ count_below n xs j l + v
  unfolding f g
  set_there e =
      let lb = leg_below l in
      let here : g a ≡ v = ap (λ p. get_or (set xs (cell a k m) v) p 0) (sym e) ∙ get_or-set_same xs (cell a k m) v 0 (omega arith) in
      ap (λ p. sum_below n g + get_or xs p 0) e ∙ sum_changed n f g a is_open (λ i lt ne. get_or-set_other xs (cell a k m) (cell i j l) v 0 (omega arith)) ∙ ap (λ w. sum_below n f + w) here

  set_elsewhere : ((i : ℕ) → cell i j l ≢ cell a k m) → count_below n (set xs (cell a k m) v) j l ≡ count_below n xs j l
  set_elsewhere apart = sum_same n _ _ (λ i lt. get_or-set_other xs (cell a k m) (cell i j l) v 0 (apart i))

  pub count_set : count_below n (set xs (cell a k m) v) j l + counted_for k m j l (get_or xs (cell a k m) 0) ≡ count_below n xs j l + counted_for k m j l v
  count_set =
      let lb = leg_below l in
      let mb = leg_below m in
      ⊎_elim
      (λ (p : k ≡ j). ⊎_elim
      (λ (q : leg_number m ≡ leg_number l). rw (eq-eqb k j p, eq-eqb (leg_number m) (leg_number l) q) (set_there (omega arith)))
      (λ (q : leg_number m ≢ leg_number l). rw (eq-eqb k j p, ne_eqb (leg_number m) (leg_number l) q) (ap (λ w. w + 0) (set_elsewhere (λ i. omega arith))))
      (cases_eq (leg_number m) (leg_number l)))
      (λ (p : k ≢ j). rw (ne_eqb k j p) (ap (λ w. w + 0) (set_elsewhere (λ i. omega arith))))
      (cases_eq k j)

pub counted_sum : (k : ℕ) (m : Leg) (j : ℕ) (l : Leg) (x y : ℕ) → counted_for k m j l (x + y) ≡ counted_for k m j l x + counted_for k m j l y
counted_sum k m j l x y = grind arith

-- what counts for one leg, and as much for the other, counts once whatever the leg
pub counted_both : (k j : ℕ) (l : Leg) (x : ℕ) → counted_for k Long j l x + counted_for k Short j l x ≡ cond (eqb k j) x 0
counted_both k j Long x = grind arith
counted_both k j Short x = grind arith
