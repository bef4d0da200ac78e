-- The key of a series: its limits and its order.
use Rattle.std.specs.Prelude.{ℕ, ◌%◌, Bool, cond, ◌&&◌, List, [], ◌∷◌, ℤ, Some, None, Option, nat_le}
use borrow.Author.Differences.{up}
use Rattle.terms.specs.declared.keys.AskedKey.{AskedKey}
use Rattle.terms.specs.declared.keys.SeriesKey.{SeriesKey}
use Rattle.terms.specs.Codes.{proper}
use Rattle.terms.specs.Limits.{between_limits}
use Rattle.terms.specs.Words.{kind_number}

-- yyyymm, 2000 to 2099 and 01 to 12
abbrev pub month_fits : ℤ → Bool
month_fits z = between_limits z 200001 209912 && (nat_le 1 (up z % 100) && nat_le (up z % 100) 12)

-- 1 to 99,999,999 cents
abbrev pub strike_fits : ℤ → Bool
strike_fits z = between_limits z 1 99999999

abbrev pub key_fits : AskedKey → Bool
key_fits k = proper k.class && (month_fits k.month && strike_fits k.strike)

-- the key inside its limits, or none
abbrev pub key_of : AskedKey → Option SeriesKey
key_of k = cond (key_fits k) (Some (record { class = k.class; month = up k.month; kind = k.kind; strike = up k.strike })) None

-- the key's parts, in the order in which they are compared: class, month, call before put, strike
abbrev pub figured : SeriesKey → List ℕ
figured k = k.class.first ∷ k.class.second ∷ k.class.third ∷ k.month ∷ kind_number k.kind ∷ k.strike ∷ []
