-- Whole numbers by their two parts, up and down, and figures at a rate.
use Rattle.std.specs.Prelude.{◌≡◌, ℕ, ◌+◌, ◌*◌, ◌≤◌, ◌⊎◌, ℤ, pos, negsuc, ◌+ℤ◌, ◌*ℤ◌, refl}
use Rattle.std.proofs.Common.{ap, inl, inr, ⊎_elim, arith, add-mul, mul-le-mul_right}
use borrow.Author.Differences.{up, down, ints, sum_is_lem}

-- one of the two parts is 0
pub one_part : (z : ℤ) → (up z ≡ 0) ⊎ (down z ≡ 0)
one_part (pos n) = inr refl
one_part (negsuc n) = inl refl

pub up_add : (a b : ℤ) → up (a +ℤ b) ≤ up a + up b
up_add a b = ⊎_elim (λ e. omega arith) (λ e. omega (arith, sum_is_lem a b)) (one_part (a +ℤ b))

pub down_add : (a b : ℤ) → down (a +ℤ b) ≤ down a + down b
down_add a b = ⊎_elim (λ e. omega (arith, sum_is_lem a b)) (λ e. omega arith) (one_part (a +ℤ b))

pub add_times : (a b c : ℤ) → (a +ℤ b) *ℤ c ≡ (a *ℤ c) +ℤ (b *ℤ c)
add_times a b c =
    let e = simp add-mul at (ap (λ x. x * up c) (sum_is_lem a b)) in
    let f = simp add-mul at (ap (λ x. x * down c) (sum_is_lem a b)) in
    omega (arith, ints)

-- a rate keeps the order
pub rated : (x y z a rate : ℕ) → x ≤ y + z + a → x * rate ≤ y * rate + z * rate + a * rate
rated x y z a rate h = omega (arith, mul-le-mul_right rate h, add-mul (y + z) a rate, add-mul y z rate)
