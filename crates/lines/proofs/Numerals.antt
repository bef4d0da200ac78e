-- The text of a number, a minus before it where it is below zero.
use Rattle.std.proofs.Common.{◌≡◌, ℕ, zero, suc, ◌^◌, ◌<◌, ◌≤◌, ◌≢◌, List, ◌∷◌, length, get_or, ℤ, pos, negsuc, neg_ℤ, decimal, sym, refl, ap, ◌∙◌, arith}
use Rattle.std.specs.Fmt.{signed_decimal}
use Rattle.std.specs.List.{between}
use Rattle.std.proofs.lemmas.Slice.{first_rest}
use Rattle.std.proofs.lemmas.Fmt.{decimal_nonempty, decimal_injective, signed_decimal_injective}
use Rattle.lines.specs.Columns.{Is, Isnt, Within}
use Rattle.lines.proofs.Decimal.{figure}

first : (n : ℕ) → n < 2 ^ 64 → 48 ≤ get_or (decimal n) 0 0
first n h = (figure n 0 h (decimal_nonempty n h)).0

-- the text is not empty, and does not begin with a blank
pub some : (z : ℤ) → Within z → 0 < length (signed_decimal z)
some (pos n) h = decimal_nonempty n (omega arith)
some (negsuc n) h = omega arith

pub no_blank : (z : ℤ) → Within z → get_or (signed_decimal z) 0 0 ≢ 32
no_blank (pos n) h e = omega (arith, first n (omega arith))
no_blank (negsuc n) h e = omega arith

-- a minus, and what follows it
module _ (t : List ℕ) (l : 0 < length t) (m : get_or t 0 0 ≡ 45) where
  abbrev u : List ℕ
  u = between 1 (length t) t

  e : t ≡ 45 ∷ u
  e = first_rest t 0 l ∙ ap (λ (b : ℕ). b ∷ u) m

  pub minus_isnt : ((n : ℕ) → n < 2 ^ 64 → u ≢ decimal n) → Isnt signed_decimal Within t
  minus_isnt h (pos n) s q = omega (arith, first n (omega arith), ap (λ (x : List ℕ). get_or x 0 0) (sym e ∙ q))
  minus_isnt h (negsuc n) s q = h (suc n) (omega arith) (let w : u ≡ decimal (suc n) = cc e in w)

  pub minus_zero : u ≡ decimal 0 → Isnt signed_decimal Within t
  minus_zero d (pos n) s q = omega (arith, first n (omega arith), ap (λ (x : List ℕ). get_or x 0 0) (sym e ∙ q))
  minus_zero d (negsuc n) s q = let w : decimal (suc n) ≡ decimal 0 = cc e in omega (arith, decimal_injective (suc n) 0 (omega arith) (omega arith) w)

  pub minus_is : (n : ℕ) (z : ℤ) → u ≡ decimal n → n < 10 ^ 13 → n ≢ 0 → z ≡ neg_ℤ (pos n) → Is signed_decimal Within t z
  minus_is zero z d b h q = absurd (h refl)
  minus_is (suc k) z d b h q = rw q (record {
    fit = omega arith;
    reads = e ∙ ap (λ (x : List ℕ). 45 ∷ x) d;
    only = λ y s p. signed_decimal_injective y (negsuc k) s (omega arith) (sym p ∙ e ∙ ap (λ (x : List ℕ). 45 ∷ x) d);
  })

-- no minus
module _ (t : List ℕ) where
  pub plain_isnt : get_or t 0 0 ≢ 45 → ((n : ℕ) → n < 2 ^ 64 → t ≢ decimal n) → Isnt signed_decimal Within t
  plain_isnt f h (pos n) s q = h n (omega arith) q
  plain_isnt f h (negsuc n) s q = f (ap (λ (x : List ℕ). get_or x 0 0) q)

  pub plain_is : (n : ℕ) (z : ℤ) → t ≡ decimal n → n < 10 ^ 13 → z ≡ pos n → Is signed_decimal Within t z
  plain_is n z d l q = rw q (record { fit = omega arith; reads = d; only = λ b s p. signed_decimal_injective b (pos n) s (omega arith) (sym p ∙ d) })
