-- Decimal digits, read from the first to the last.
use Rattle.std.proofs.Common.{◌≡◌, ℕ, zero, suc, ◌+◌, ◌-◌, ◌*◌, ◌^◌, ◌<◌, ◌≤◌, List, length, get_or, take, decimal, sym, ap, arith}
use Rattle.std.specs.Char.{digit_value}
use Rattle.std.specs.Int.{IsInRange}
use Rattle.std.specs.Str.Parse.{AllDigits, digits_value}
use Rattle.std.proofs.lemmas.Fmt.{decimal_nonempty, decimal_digit, first_decimal, digits_decimal, decimal-digits_value}
use Rattle.std.proofs.lemmas.Int.Digits.{digits_more, digits_value_more}
use Rattle.std.proofs.lemmas.List.{length-take-le, take_all}
use Rattle.std.proofs.lemmas.Str.Parse.{IsNumeralModel, numerals_by_value, tells_digits, digit_at, digits_value_short}

own : IsNumeralModel (AllDigits 10) (digits_value 10)
own = numerals_by_value (AllDigits 10) tells_digits

-- the text of a number
pub some : (n : ℕ) → n < 2 ^ 64 → 0 < length (decimal n)
some n h = decimal_nonempty n h

pub no_zero : (n : ℕ) → n < 2 ^ 64 → get_or (decimal n) 0 0 ≡ 48 → length (decimal n) < 2
no_zero zero h e = omega (arith, ap length (decimal_digit 0 (omega arith)))
no_zero (suc n) h e = omega (arith, first_decimal (suc n) (omega arith) h)

pub figure : (n i : ℕ) → n < 2 ^ 64 → i < length (decimal n) → IsInRange 48 57 (get_or (decimal n) i 0)
figure n i h l = digit_at (decimal n) i (digits_decimal own n h) l

-- the first i digits of a text
module _ (ds : List ℕ) (i : ℕ) (f : AllDigits 10 (take i ds)) where
  pub below : (k : ℕ) → i ≤ k → i ≤ length ds → digits_value 10 (take i ds) < 10 ^ k
  below k l m = digits_value_short own (take i ds) k f (omega (arith, length-take-le i ds m))

  more : (c : ℕ) → IsInRange 48 57 c → digit_value c ≡ c - 48
  more c r = grind arith

  pub more_figures : i < length ds → IsInRange 48 57 (get_or ds i 0) → AllDigits 10 (take (i + 1) ds)
  more_figures l r = digits_more 10 ds i l f (omega (arith, more (get_or ds i 0) r))

  pub more_value : i < length ds → IsInRange 48 57 (get_or ds i 0) → digits_value 10 (take i ds) * 10 + (get_or ds i 0 - 48) ≡ digits_value 10 (take (i + 1) ds)
  more_value l r = omega (arith, digits_value_more 10 ds i l, more (get_or ds i 0) r)

  pub whole : length ds ≤ i → 0 < length ds → (get_or ds 0 0 ≡ 48 → length ds < 2) → digits_value 10 (take i ds) < 2 ^ 64 → ds ≡ decimal (digits_value 10 (take i ds))
  whole l s z h = let e : take i ds ≡ ds = take_all i ds l in rw e (sym (decimal-digits_value own ds (rw e at f) s (λ x. omega (arith, z x)) (rw e at h)))
