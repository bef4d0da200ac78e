-- What the answers of two parts say of a composite's answer.
use Rattle.std.proofs.Common.{◌≡◌, ℕ, ◌≤◌, Bool, true, false, refl, ℤ, pos, IfOk, Ok, Err, Result, ◌≤ℤ◌, nat_abs, to_z, of_z, w64, Fits, FitsSigned, sym, ap, ◌∙◌, arith}
use borrow.Author.Differences.{not_negative_in}
use lib.Dec.{T}
use lib.Signed.{non_neg}
use Rattle.std.proofs.lemmas.Int.{ints, to_z-of_z}
use Rattle.std.specs.Result.{IsErrAnd}
use Rattle.std.proofs.lemmas.Result.{err_from_is_err_and}
use Rattle.std.proofs.lemmas.Bool.Decides.{nat_tests}
use Rattle.terms.specs.declared.faults.Fault.{Fault}
use Rattle.terms.specs.declared.words.Label.{Label}
use Rattle.charge.specs.Answers.{answer, judged, limited, first_blamed}

-- a figure may be cast to an unsigned number
pub casts : (x : ℤ) → FitsSigned w64 x → pos 0 ≤ℤ x → T (non_neg (to_z w64 (of_z w64 x))) × Fits w64 (nat_abs (to_z w64 (of_z w64 x)))
casts x f l = simp to_z-of_z (not_negative_in x (omega (arith, ints)), omega (arith, ints))

-- an answer that is a figure
pub record Figure (fit : Bool) (n : ℕ) (x : ℤ) : Type 0 where
  pub fits : fit ≡ true
  pub small : n ≤ 100000000000
  pub is : x ≡ pos n

pub figure : (fit : Bool) (n : ℕ) (l r : Label) (x : ℤ) → Ok x ≡ answer fit n l r → Figure fit n x
unfolding limited
figure fit n l r x e = record { fits = grind (arith, nat_tests); small = grind (arith, nat_tests); is = grind (arith, nat_tests) }

pub figure_casts : (fit : Bool) (n : ℕ) (l r : Label) (x : ℤ) → Ok x ≡ answer fit n l r → T (non_neg (to_z w64 (of_z w64 x))) × Fits w64 (nat_abs (to_z w64 (of_z w64 x)))
figure_casts fit n l r x e = let f = figure fit n l r x e in casts x (omega (arith, ints)) (omega (arith, ints))

pub figure_made : (fit : Bool) (n : ℕ) (l r : Label) (o : Result ℤ Fault) → o ≡ answer fit n l r → IfOk o (λ z. z ≡ pos n)
figure_made fit n l r (Ok z) e = (figure fit n l r z e).is
figure_made fit n l r (Err f) e = tt

-- a composite that makes t of the figures m and n of its two parts
module _ (fit : Bool) (m n t : ℕ) (a b own r : Label) where
  -- the first part's fault goes up whole
  pub first_refuses : (f : Fault) (o : Result ℤ Fault) → m ≤ t → IsErrAnd o (λ y. y ≡ f) → Err f ≡ answer fit m a r → o ≡ answer fit t (first_blamed m a n b own) r
  unfolding limited
  first_refuses f o more w e = let p = err_from_is_err_and o w in rw (p.1, p.2) (grind (arith, nat_tests))

  -- so does the second part's, where the first has a figure
  pub second_refuses : (s : Label) (x : ℤ) (f : Fault) (o : Result ℤ Fault) → n ≤ t → IsErrAnd o (λ y. y ≡ f) → Ok x ≡ answer fit m a r → Err f ≡ answer fit n b s → o ≡ answer fit t (first_blamed m a n b own) r
  unfolding limited
  second_refuses s x f o more w d e = let p = err_from_is_err_and o w in rw (p.1, p.2) (grind (arith, nat_tests))

  pub both_answer : (s : Label) (x y : ℤ) (o : Result ℤ Fault) → m ≤ t → n ≤ t → Ok x ≡ answer fit m a r → Ok y ≡ answer fit n b s → o ≡ limited t own → o ≡ answer fit t (first_blamed m a n b own) r
  unfolding limited
  both_answer s x y o more also d e h = grind (arith, nat_tests)

-- a position that its charge's test passed
pub passed : (fit : Bool) (r : Label) (u : Unit {0}) → Ok u ≡ judged fit r → fit ≡ true
passed true r u e = refl
passed false r u e = (cc)

pub answered : (fit : Bool) (n : ℕ) (l r : Label) (o : Result ℤ Fault) → fit ≡ true → o ≡ limited n l → o ≡ answer fit n l r
answered fit n l r o e h = h ∙ sym (ap (λ b. answer b n l r) e)
