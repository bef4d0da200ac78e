-- A sum's size is at most the sizes of its parts.
use Rattle.std.specs.Prelude.{◌≡◌, ℕ, zero, suc, ◌+◌, ◌*◌, ◌≤◌, List, [], ◌∷◌, replicate, ℤ, pos, ◌+ℤ◌, unsigned_abs, refl}
use Rattle.std.proofs.Common.{ap, ◌∙◌, mul-le-mul_right, add-mul, zero-mul, arith}
use Rattle.std.proofs.lemmas.Int.{ints}
use Rattle.std.proofs.lemmas.List.Sums.{sum_by-cons}
use Rattle.charge.specs.Positions.{joined}
use Rattle.charge.specs.Meanings.{Lawful}
use Rattle.example.specs.Flat.{flat, gross}

pub gross_none : (n : ℕ) → gross (replicate n (pos 0)) ≡ 0
gross_none zero = refl
gross_none (suc n) = omega (arith, gross_none n, sum_by-cons unsigned_abs (pos 0) (replicate n (pos 0)))

pub gross_joined : (p q : List ℤ) → gross (joined p q) ≤ gross p + gross q
gross_joined [] q = omega arith
gross_joined (m ∷ p) [] = omega arith
gross_joined (m ∷ p) (n ∷ q) = omega (arith, ints, gross_joined p q, sum_by-cons unsigned_abs m p, sum_by-cons unsigned_abs n q, sum_by-cons unsigned_abs (m +ℤ n) (joined p q))

pub flat_lawful : (cents : ℕ) → Lawful (flat cents)
flat_lawful cents = record {
  zero = λ t n. ap (λ (k : ℕ). k * cents) (gross_none n) ∙ zero-mul cents;
  join = λ t p q e. omega (arith, mul-le-mul_right cents (gross_joined p q), add-mul (gross p) (gross q) cents);
}
