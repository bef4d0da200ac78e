-- The records of collateral: a list for each side, with a record for each currency.
use Rattle.std.specs.Prelude.{◌≤◌, List, [], None, slice_index_or, slice_set}
use Rattle.terms.specs.declared.words.Currency.{Currency}
use Rattle.terms.specs.declared.words.Side.{Side}
use Rattle.terms.specs.Words.{currency_number, side_number}
use Rattle.collateral.specs.declared.records.Collateral.{Collateral}

-- at first: nothing brought, nothing unmet, no notice out
abbrev pub nothing : Collateral
nothing = record { held = 0; unmet = 0; out = None }

-- at most 10^13 cents are brought
abbrev pub WithinCeiling : Collateral → Type 0
WithinCeiling r = r.held ≤ 10000000000000

-- the records of a side, the client side's first
abbrev pub records_of : List (List Collateral) → Side → List Collateral
records_of rs s = slice_index_or rs (side_number s) []

-- the record of a side and a currency
abbrev pub record_at : List (List Collateral) → Side → Currency → Collateral
record_at rs s c = slice_index_or (records_of rs s) (currency_number c) nothing

-- the records with another one there
abbrev pub with_record : List (List Collateral) → Side → Currency → Collateral → List (List Collateral)
with_record rs s c r = slice_set rs (side_number s) (slice_set (records_of rs s) (currency_number c) r)
