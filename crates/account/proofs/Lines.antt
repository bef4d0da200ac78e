-- The lines of sums and rates: what each is within, and what they add up to.
use Rattle.std.proofs.Common.{◌≡◌, ℕ, zero, suc, ◌+◌, ◌*◌, ◌<◌, ◌≤◌, List, [], ◌∷◌, map, length, get_or, ℤ, sum, refl, ap, ◌∙◌, arith}
use Rattle.std.specs.List.{zip}
use Rattle.std.proofs.lemmas.List.Sums.{sum_by-cons}
use Rattle.std.proofs.lemmas.Nat.{mul-le}
use Rattle.account.specs.Offset.{debit, credit, fund_of, Limits}
use Rattle.account.proofs.Totals.{limits_ahead, one_limited}

-- a sum and its rate at one place are within their limits
pub line_limited : (ss : List ℤ) (rs : List ℕ) → Limits ss rs → (k : ℕ) (d p : ℤ × ℕ) → k < length (zip ss rs) → p ≡ get_or (zip ss rs) k d → (debit p.0 ≤ 100000000000) × (credit p.0 ≤ 100000000000) × (p.1 ≤ 200000)
line_limited [] rs l k d p q e = absurd (omega arith)
line_limited (s ∷ ss) [] l k d p q e = absurd (omega arith)
line_limited (s ∷ ss) (r ∷ rs) l zero d p q e = rw e (one_limited _ _ s ss r rs refl refl l)
line_limited (s ∷ ss) (r ∷ rs) l (suc k) d p q e = line_limited ss rs (limits_ahead _ _ s ss r rs refl refl l) k d p (omega arith) e

-- the value of a credit
abbrev pub credit_line : ℤ × ℕ → ℕ
credit_line p = credit p.0 * p.1

pub credit_lines : (ss : List ℤ) (rs : List ℕ) → sum (map credit_line (zip ss rs)) ≡ fund_of ss rs
credit_lines [] rs = refl
credit_lines (s ∷ ss) [] = refl
credit_lines (s ∷ ss) (r ∷ rs) = sum_by-cons (λ y. y) (credit s * r) (map credit_line (zip ss rs)) ∙ ap (λ n. credit s * r + n) (credit_lines ss rs)

pub fund_small : (ss : List ℤ) (rs : List ℕ) → Limits ss rs → fund_of ss rs ≤ length ss * 20000000000000000
fund_small [] rs l = omega arith
fund_small (s ∷ ss) [] l = omega arith
fund_small (s ∷ ss) (r ∷ rs) l =
    let one = one_limited _ _ s ss r rs refl refl l in
    omega (arith, mul-le (credit s) r 100000000000 200000 one.1 one.2, fund_small ss rs (limits_ahead _ _ s ss r rs refl refl l))
