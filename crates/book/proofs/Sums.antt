-- Signed numbers of a list's elements, added up.
use Rattle.std.proofs.Common.{◌≡◌, ℕ, ◌+◌, ◌≤◌, List, [], ◌∷◌, map, ℤ, pos, ◌+ℤ◌, ◌*ℤ◌, ◌≤ℤ◌, sym, refl, ap, ◌∙◌, arith, add-mul, mul-le-mul_right}
use borrow.Author.Differences.{up, down, ints}
use Rattle.charge.specs.Sizes.{add_times}
use Rattle.sheet.specs.declared.rows.ClassRow.{ClassRow}
use Rattle.account.proofs.Weighed.{rate_of, weighed}

abbrev pub total : {A : Type 0} → (A → ℤ) → List A → ℤ
total f [] = pos 0
total f (x ∷ xs) = f x +ℤ total f xs

-- a natural number keeps the order
pub times_le : (a b : ℤ) (r : ℕ) → a ≤ℤ b → (a *ℤ pos r) ≤ℤ (b *ℤ pos r)
times_le a b r h =
    let l : up a + down b ≤ up b + down a = omega (arith, ints) in
    let e = simp add-mul at (mul-le-mul_right r l) in
    omega (arith, ints)

pub total_times : {A : Type 0} (f : A → ℤ) (r : ℕ) (xs : List A) → total f xs *ℤ pos r ≡ total (λ x. f x *ℤ pos r) xs
total_times f r [] = omega (arith, ints)
total_times f r (x ∷ xs) = add_times (f x) (total f xs) (pos r) ∙ ap (λ z. (f x *ℤ pos r) +ℤ z) (total_times f r xs)

pub total_add : {A : Type 0} (f g : A → ℤ) (xs : List A) → total (λ x. f x +ℤ g x) xs ≡ total f xs +ℤ total g xs
total_add f g [] = refl
total_add f g (x ∷ xs) = omega (arith, ints, total_add f g xs)

pub total_zero : {A : Type 0} (xs : List A) → total (λ x. pos 0) xs ≡ pos 0
total_zero [] = refl
total_zero (x ∷ xs) = omega (arith, ints, total_zero xs)

-- sums over two lists exchanged
pub exchange : {A B : Type 0} (f : A → B → ℤ) (xs : List A) (ys : List B) → total (λ x. total (f x) ys) xs ≡ total (λ y. total (λ x. f x y) xs) ys
exchange f [] ys = sym (total_zero ys)
exchange f (x ∷ xs) ys = ap (λ z. total (f x) ys +ℤ z) (exchange f xs ys) ∙ sym (total_add (f x) (λ y. total (λ x. f x y) xs) ys)

-- the value of figures that are each its class's
pub weighed_total : (rates : List ℕ) (f : ClassRow → ℤ) (classes : List ClassRow) → weighed rates classes (map f classes) ≡ total (λ k. f k *ℤ pos (rate_of rates k)) classes
weighed_total rates f [] = refl
weighed_total rates f (k ∷ classes) = ap (λ z. (f k *ℤ pos (rate_of rates k)) +ℤ z) (weighed_total rates f classes)
