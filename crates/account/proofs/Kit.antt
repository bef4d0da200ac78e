-- Signed numbers, their sums and products, small enough for an i64. Assumes nothing.
use Rattle.std.proofs.Common.{◌≡◌, ℕ, ◌+◌, ◌*◌, ◌^◌, ◌<◌, ◌≤◌, ℤ, pos, ◌+ℤ◌, ◌-ℤ◌, ◌*ℤ◌, neg_ℤ, nat_abs, arith, w64, SFits, to_z, of_z}
use borrow.Author.Differences.{ints}
use Rattle.std.proofs.lemmas.Int.{to_z-of_z, unsigned_abs-mul}
use Rattle.std.proofs.lemmas.Nat.{mul-le}

pub small_fits : (z : ℤ) → nat_abs z < 2 ^ 63 → SFits w64 z
small_fits z h = omega (arith, ints)

pub back : (z : ℤ) → nat_abs z < 2 ^ 63 → to_z w64 (of_z w64 z) ≡ z
back z h = to_z-of_z w64 z (small_fits z h)

pub abs_add : (y z : ℤ) → nat_abs (y +ℤ z) ≤ nat_abs y + nat_abs z
abs_add y z = omega (arith, ints)

-- a sum of a variable that a loop changes, or any integer, and a call's result
module _ (a r : ℤ) (h : nat_abs a + nat_abs r < 2 ^ 63) where
  pub sum_fits : SFits w64 (a +ℤ to_z w64 (of_z w64 r))
  sum_fits = rw (back r (omega arith)) (small_fits _ (omega (arith, abs_add a r)))

  pub sum_back : to_z w64 (of_z w64 (a +ℤ to_z w64 (of_z w64 r))) ≡ a +ℤ r
  sum_back = rw (back r (omega arith)) (back _ (omega (arith, abs_add a r)))

-- the same of two calls' results
pub both_back : (a r : ℤ) → nat_abs a + nat_abs r < 2 ^ 63 → to_z w64 (of_z w64 (to_z w64 (of_z w64 a) +ℤ to_z w64 (of_z w64 r))) ≡ a +ℤ r
both_back a r h = rw (back a (omega arith)) (sum_back a r h)

-- a product of a small number and an unsigned one r that is cast, and its negation
module _ (z r : ℤ) (n a b : ℕ) (e : r ≡ pos n) (p : nat_abs z ≤ a) (q : n ≤ b) (ha : a < 2 ^ 63) (hb : b < 2 ^ 63) (h : a * b < 2 ^ 63) where
  pub product_small : nat_abs (z *ℤ pos n) ≤ a * b
  product_small = rw (unsigned_abs-mul z (pos n)) (mul-le _ _ a b p q)

  pub product_back : to_z w64 (of_z w64 (to_z w64 (of_z w64 z) *ℤ to_z w64 (of_z w64 r))) ≡ z *ℤ pos n
  product_back = rw (e, back z (omega arith), back (pos n) (omega arith)) (back (z *ℤ pos n) (omega (arith, product_small)))

  pub minus_fits : SFits w64 (pos 0 -ℤ to_z w64 (of_z w64 (to_z w64 (of_z w64 z) *ℤ to_z w64 (of_z w64 r))))
  minus_fits = rw product_back (omega (arith, ints, product_small))

  pub minus_back : to_z w64 (of_z w64 (pos 0 -ℤ to_z w64 (of_z w64 (to_z w64 (of_z w64 z) *ℤ to_z w64 (of_z w64 r))))) ≡ neg_ℤ (z *ℤ pos n)
  minus_back = rw product_back (omega (arith, ints, product_small))
