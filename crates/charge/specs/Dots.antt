-- Counts times weights, added up: nothing where nothing is held, and joining positions adds the sums.
use Rattle.std.specs.Prelude.{◌≡◌, zero, suc, pred, List, [], ◌∷◌, length, replicate, ℤ, ℕ, pos, ◌+ℤ◌, refl}
use Rattle.std.proofs.Common.{ap, arith}
use Rattle.std.proofs.lemmas.Int.{ints}
use Rattle.charge.specs.Positions.{joined, dot}
use Rattle.charge.specs.Sizes.{add_times}

pub dot_zero : (ws : List ℤ) (n : ℕ) → dot ws (replicate n (pos 0)) ≡ pos 0
dot_zero [] n = refl
dot_zero (w ∷ ws) zero = refl
dot_zero (w ∷ ws) (suc n) = omega (arith, ints, dot_zero ws n)

pub dot_joined : (ws p q : List ℤ) → length p ≡ length q → dot ws (joined p q) ≡ dot ws p +ℤ dot ws q
dot_joined [] p q e = refl
dot_joined (w ∷ ws) [] [] e = refl
dot_joined (w ∷ ws) [] (n ∷ q) e = absurd (omega arith)
dot_joined (w ∷ ws) (m ∷ p) [] e = absurd (omega arith)
dot_joined (w ∷ ws) (m ∷ p) (n ∷ q) e =
    let h = dot_joined ws p q (ap pred e) in
    let t = add_times m n w in
    omega (arith, ints)
