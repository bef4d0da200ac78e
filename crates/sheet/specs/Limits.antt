-- The limits of rates, classes and series.
use Rattle.std.specs.Prelude.{ℕ, ◌*◌, ◌≤◌, Bool, cond, ◌&&◌, leb, List, map, length, ℤ, pos, Some, None, Option, nat_le, nat_lt, slice_index, slice_index_or, unsigned_abs}
use borrow.Author.Differences.{up}
use Rattle.std.specs.Option.{unwrap_or}
use Rattle.std.specs.List.{list_all}
use Rattle.terms.specs.Codes.{proper}
use Rattle.terms.specs.Keys.{key_fits}
use Rattle.terms.specs.Limits.{between_limits}
use Rattle.terms.specs.Words.{currency_number}
use Rattle.terms.specs.declared.codes.Code.{Code}
use Rattle.terms.specs.declared.keys.AskedKey.{AskedKey}
use Rattle.terms.specs.declared.keys.SeriesKey.{SeriesKey}
use Rattle.terms.specs.declared.words.Currency.{Currency}
use Rattle.sheet.specs.declared.rows.ClassRow.{ClassRow}
use Rattle.sheet.specs.declared.rows.Listing.{Listing}
use Rattle.sheet.specs.declared.rows.Series.{Series}

-- A rate is in ten-thousandths of one HKD for one unit, 1 to 200,000.
abbrev pub rate_fits : ℤ → Bool
rate_fits z = between_limits z 1 200000

-- A currency is on the sheet if it has a rate; 0 stands for none.
abbrev pub quoted : List ℕ → Currency → Bool
quoted rates c = nat_lt 0 (slice_index rates (currency_number c))

-- A class has a code of three capitals, a spread rate, if one is published, of 0 to 100,000 whole units for one delta,
-- and a minimum rate of 0 to 1,000,000 cents for one short contract.
abbrev pub terms_fit : Code → Option ℤ → ℤ → Bool
terms_fit code spread minimum = proper code && (between_limits (unwrap_or spread (pos 0)) 0 100000 && between_limits minimum 0 1000000)

-- a published rate, as the row has it
abbrev pub published : Option ℤ → Option ℕ
published None = None
published (Some z) = Some (up z)

abbrev pub class_of : Code → Currency → Option ℤ → ℤ → Option ClassRow
class_of code c spread minimum = cond (terms_fit code spread minimum) (Some (record { code = code; currency = c; spread_rate = published spread; minimum_rate = up minimum })) None

-- A series has a key inside its limits, a price of 0 to 10,000,000 cents, 1 to 99,999 shares, price × shares at most 10,000,000,
-- and a composite delta of -100 to 100 hundredths.
abbrev pub line_fits : Listing → Bool
line_fits l =
    key_fits l.key && (between_limits l.price 0 10000000 && (between_limits l.shares 1 99999 && (nat_le (up l.price * up l.shares) 10000000 && nat_le (unsigned_abs l.delta) 100)))

-- Each of the sixteen amounts of its risk array lies within 10,000,000 of zero.
abbrev pub values_fit : List ℤ → Bool
values_fit zs = list_all (λ z. leb (unsigned_abs z) 10000000) zs

-- the key that the given numbers make
abbrev pub keyed : AskedKey → SeriesKey
keyed k = record { class = k.class; month = up k.month; kind = k.kind; strike = up k.strike }

-- the row that a listing makes with its array
abbrev pub listed_row : Listing → List ℤ → Series
listed_row l array = record { key = keyed l.key; price = up l.price; shares = up l.shares; delta = l.delta; array = array }

abbrev pub series_of : Listing → List ℤ → Option Series
series_of l array = cond (line_fits l) (Some (listed_row l array)) None

-- ---- the same limits, of rows that stand on a sheet
abbrev pub rates_fit : Option ℕ → ℕ → Bool
rates_fit spread minimum = nat_le (unwrap_or spread 0) 100000 && nat_le minimum 1000000

abbrev pub row_fits : ClassRow → Bool
row_fits r = proper r.code && rates_fit r.spread_rate r.minimum_rate

-- and its currency is on the sheet
abbrev pub class_fits : List ℕ → ClassRow → Bool
class_fits rates r = row_fits r && quoted rates r.currency

-- a key as it would be given
abbrev pub asked : SeriesKey → AskedKey
asked k = record { class = k.class; month = pos k.month; kind = k.kind; strike = pos k.strike }

-- a row's line as it would be given
abbrev pub line_of : Series → Listing
line_of s = record { key = asked s.key; price = pos s.price; shares = pos s.shares; delta = s.delta }

abbrev pub series_fits : Series → Bool
series_fits s = line_fits (line_of s) && values_fit s.array

-- ---- as a charge needs them
-- each number of the list lies within n of zero
abbrev pub Within : ℕ → List ℤ → Type 0
Within n zs = (i : ℕ) → unsigned_abs (slice_index_or zs i (pos 0)) ≤ n

-- a series' amount in a scenario
abbrev pub scenario : ℕ → Series → ℤ
scenario k r = slice_index_or r.array k (pos 0)

abbrev pub delta_of : Series → ℤ
delta_of r = r.delta

-- a class's rates and series are inside their limits
abbrev pub Inside : Option ℕ → ℕ → List Series → Type 0
Inside spread minimum rows =
    (unwrap_or spread 0 ≤ 100000) × (minimum ≤ 1000000) × (length rows ≤ 128)
    × Within 100 (map delta_of rows) × ((k : ℕ) → Within 10000000 (map (scenario k) rows))

-- what one contract is worth at its price: price × shares
abbrev pub worth_of : Series → ℕ
worth_of r = r.price * r.shares

abbrev pub Worthy : List Series → Type 0
Worthy rows = Within 10000000 (map (λ r. pos (worth_of r)) rows)
