-- Digits written from the last to the first, and blanks before them.
use Rattle.std.proofs.Common.{◌≡◌, ℕ, zero, suc, ◌+◌, ◌-◌, ◌/◌, ◌%◌, ◌^◌, ◌<◌, ◌≤◌, List, [], ◌∷◌, ◌++◌, length, drop, set, replicate, pos, decimal, sym, ap, ◌∙◌, add-one, pow-suc, arith}
use Rattle.std.proofs.lemmas.Fmt.{decimal_digit, decimal_step}
use Rattle.std.proofs.lemmas.List.{append_assoc, length-drop, length-set, drop-set}
use Rattle.lines.specs.Columns.{column}

pub digit_more : (n left i j : ℕ) (out : List ℕ) → j ≡ i → 10 ≤ left → left < 2 ^ 64 → i < length out → decimal left ++ drop (i + 1) out ≡ decimal n → decimal (left / 10) ++ drop j (set out i (48 + left % 10)) ≡ decimal n
digit_more n left i j out q p s l e =
    ap (λ (x : ℕ). decimal (left / 10) ++ drop x (set out i (48 + left % 10))) q ∙ ap (λ (x : List ℕ). decimal (left / 10) ++ x) (drop-set out i (48 + left % 10) l)
    ∙ sym (append_assoc (decimal (left / 10)) ((48 + left % 10) ∷ []) (drop (i + 1) out)) ∙ ap (λ (x : List ℕ). x ++ drop (i + 1) out) (sym (decimal_step left p s)) ∙ e

-- a number that is left to write has a column before it
pub more_columns : (left i : ℕ) → 10 ≤ left → left < 10 ^ (i + 1) → 0 < i
more_columns left zero p h = absurd (omega arith)
more_columns left (suc i) p h = omega arith

pub fewer_digits : (left i j : ℕ) → j ≡ i → left < 10 ^ (i + 1) → left / 10 < 10 ^ j
fewer_digits left i j q h = omega (arith, ap (λ (x : ℕ). 10 ^ x) q, ap (λ (x : ℕ). 10 ^ x) (add-one i), pow-suc 10 i)

pub last_put : (n left i m : ℕ) (out : List ℕ) → left < 10 → i < length out → length out ≡ m → decimal left ++ drop (i + 1) out ≡ decimal n → replicate i 32 ++ drop i (set out i (48 + left)) ≡ column m (pos n)
last_put n left i m out d l e digits =
    let written : drop i (set out i (48 + left)) ≡ decimal n = drop-set out i (48 + left) l ∙ ap (λ (x : List ℕ). x ++ drop (i + 1) out) (sym (decimal_digit left d)) ∙ digits in
    let width : m - length (decimal n) ≡ i = omega (arith, length-drop i (set out i (48 + left)), length-set out i (48 + left), ap length written) in
    rw width (ap (λ (x : List ℕ). replicate i 32 ++ x) written)
