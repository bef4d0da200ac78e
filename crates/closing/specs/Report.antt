-- What is printed of an input: its report, or the one line of its fault.
use Rattle.std.specs.Prelude.{ℕ, List, ◌++◌, filter, slice_index, min, Ok, Err, Result}
use Rattle.std.specs.List.{flat_map}
use Rattle.std.specs.Option.{unwrap_or}
use Rattle.terms.specs.declared.faults.Fault.{Fault}
use Rattle.terms.specs.declared.words.Currency.{Currency}
use Rattle.terms.specs.declared.words.Side.{Side}
use Rattle.terms.specs.declared.words.Side.TheVariants.{Client, House}
use Rattle.terms.specs.Words.{currency_number}
use Rattle.sheet.specs.Limits.{quoted}
use Rattle.account.specs.Sums.{currencies}
use Rattle.collateral.specs.Deposits.{called}
use Rattle.collateral.specs.Requirements.{Owes, requirement_of}
use Rattle.lines.specs.Report.{owed_line, call_line, fault_line}
use Rattle.closing.specs.Days.{Figures}

-- a line for each currency on the sheet, in the order of the currencies
abbrev pub each_currency : List ℕ → (Currency → List ℕ) → List ℕ
each_currency rates line = flat_map line (filter (quoted rates) currencies)

-- what an account owes
abbrev pub owed_in : Owes → Currency → List ℕ
owed_in a c = owed_line a.name c (slice_index a.owed (currency_number c))

-- an account's lines
abbrev pub owed_lines : List ℕ → Owes → List ℕ
owed_lines rates a = each_currency rates (owed_in a)

-- what a side has to bring, and what it is called for
abbrev pub call_in : Figures → Side → Currency → List ℕ
call_in x s c = let required = requirement_of s c x.owed in call_line s c required (called x.records s c required)

-- a side's lines
abbrev pub call_lines : Figures → Side → List ℕ
call_lines x s = each_currency x.rates (call_in x s)

-- both sides, the client side first
abbrev pub sides : Figures → List ℕ
sides x = call_lines x Client ++ call_lines x House

-- the accounts in opening order, then the sides
abbrev pub report : Figures → List ℕ
report x = flat_map (owed_lines x.rates) x.owed ++ sides x

-- the report of the figures, or the fault's line: 0 where the fault names no line, and at most what seven columns hold
abbrev pub printed : Result Figures Fault → List ℕ
printed (Ok x) = report x
printed (Err f) = fault_line (min (unwrap_or f.place.line 0) 9999999) f.refusal
