-- The largest loss: none where nothing is held, and joined at most the two.
use Rattle.std.specs.Prelude.{◌≡◌, ℕ, zero, suc, ◌+◌, ◌≤◌, List, map, length, replicate, ℤ, pos, refl}
use Rattle.std.proofs.Common.{ap, arith}
use borrow.Author.Differences.{up}
use Rattle.sheet.specs.Limits.{scenario}
use Rattle.sheet.specs.declared.rows.Series.{Series}
use Rattle.charge.specs.Positions.{joined, dot}
use Rattle.charge.specs.Scanning.{loss, worst}
use Rattle.charge.specs.Sizes.{up_add}
use Rattle.charge.specs.Dots.{dot_zero, dot_joined}

pub worst_zero : (k : ℕ) (rows : List Series) (n : ℕ) → worst k rows (replicate n (pos 0)) ≡ 0
unfolding worst loss
worst_zero zero rows n = refl
worst_zero (suc k) rows n = omega (arith, worst_zero k rows n, ap up (dot_zero (map (scenario k) rows) n))

pub worst_join : (k : ℕ) (rows : List Series) (p q : List ℤ) → length p ≡ length q → worst k rows (joined p q) ≤ worst k rows p + worst k rows q
unfolding worst loss
worst_join zero rows p q e = omega arith
worst_join (suc k) rows p q e =
    let ws = map (scenario k) rows in
    omega (arith, worst_join k rows p q e, ap up (dot_joined ws p q e), up_add (dot ws p) (dot ws q))
