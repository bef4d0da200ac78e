-- What a deposit does, and what is called of a side.
use Rattle.std.specs.Prelude.{ℕ, ◌+◌, ◌-◌, not, List, ℤ, is_some, Some, None, Option, nat_le, nat_lt, slice_index}
use borrow.Author.Differences.{up}
use Rattle.terms.specs.declared.faults.Fault.{Fault}
use Rattle.terms.specs.declared.words.Currency.{Currency}
use Rattle.terms.specs.declared.words.Layer.TheVariants.{Book}
use Rattle.terms.specs.declared.words.Refusal.{Refusal}
use Rattle.terms.specs.declared.words.Refusal.TheVariants.{Limit, Unknown, Ceiling, Notice}
use Rattle.terms.specs.declared.words.Side.{Side}
use Rattle.terms.specs.Faults.{refused, with_currency, unless}
use Rattle.terms.specs.Limits.{between_limits}
use Rattle.terms.specs.Words.{currency_number}
use Rattle.collateral.specs.declared.records.Collateral.{Collateral}
use Rattle.collateral.specs.Records.{record_at, with_record}

-- a fault that names the currency
abbrev pub at_currency : Refusal → Currency → Fault
at_currency e c = with_currency c (refused e Book)

-- 1 to 10^12 cents; a currency on the sheet; not beyond 10^13 in all; no notice out
abbrev pub deposit_fault : List ℕ → List (List Collateral) → Side → Currency → ℤ → Option Fault
deposit_fault rates rs s c z =
    unless (between_limits z 1 1000000000000) (refused Limit Book)
    (unless (nat_lt 0 (slice_index rates (currency_number c))) (at_currency Unknown c)
    (unless (nat_le ((record_at rs s c).held + up z) 10000000000000) (at_currency Ceiling c)
    (unless (not (is_some (record_at rs s c).out)) (at_currency Notice c) None)))

-- the record with the cents added
abbrev pub raised : Collateral → ℕ → Collateral
raised r n = record { held = r.held + n; unmet = r.unmet; out = r.out }

-- a refusal leaves every record as it was; else the one record is raised
abbrev pub deposit_after : Option Fault → List (List Collateral) → Side → Currency → ℤ → List (List Collateral)
deposit_after None rs s c z = with_record rs s c (raised (record_at rs s c) (up z))
deposit_after (Some e) rs s c z = rs

-- the call is requirement less collateral, at least 0
abbrev pub called : List (List Collateral) → Side → Currency → ℕ → ℕ
called rs s c requirement = requirement - (record_at rs s c).held
