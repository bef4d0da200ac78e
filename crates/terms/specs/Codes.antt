-- Codes of three capitals.
use Rattle.std.specs.Prelude.{ℕ, Bool, ◌&&◌, List, [], ◌∷◌, Option, ◌==◌, nat_le, slice_index}
use Rattle.std.specs.List.{find}
use Rattle.terms.specs.declared.words.Currency.{Currency}
use Rattle.terms.specs.declared.words.Currency.TheVariants.{Hkd, Usd, Eur, Jpy, Rmb}
use Rattle.terms.specs.declared.codes.Code.{Code}
use Rattle.terms.specs.Words.{currency_letters}

-- a code's letters, by which codes are ordered
abbrev pub lettered : Code → List ℕ
lettered c = c.first ∷ c.second ∷ c.third ∷ []

-- three letters as a code
abbrev pub code_of : List ℕ → Code
code_of letters = record { first = slice_index letters 0; second = slice_index letters 1; third = slice_index letters 2 }

-- A to Z
abbrev pub capital : ℕ → Bool
capital b = nat_le 65 b && nat_le b 90

-- three capitals
abbrev pub proper : Code → Bool
proper c = capital c.first && (capital c.second && capital c.third)

-- a currency's letters, as a code
abbrev pub currency_code : Currency → Code
currency_code c = code_of (currency_letters c)

-- whether a code has the letters of a currency
abbrev pub writes : Code → Currency → Bool
writes c k = c.first == (currency_code k).first && (c.second == (currency_code k).second && c.third == (currency_code k).third)

-- the one of the five whose letters a code has
abbrev pub currency_of : Code → Option Currency
currency_of c = find (λ k. writes c k) (Hkd ∷ Usd ∷ Eur ∷ Jpy ∷ Rmb ∷ [])
