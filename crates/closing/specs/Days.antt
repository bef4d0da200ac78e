-- A day: the lines up to E write a sheet, those after it deal on its book to the end of the input, and the book is margined.
use Rattle.std.specs.Prelude.{◌≡◌, ℕ, List, replicate, map, Option, Some, None, Ok, Err, Result, IfSome}
use Rattle.terms.specs.declared.faults.Fault.{Fault}
use Rattle.sheet.specs.State.{State as Draft, fresh}
use Rattle.charge.specs.Meanings.{prime_meaning}
use Rattle.account.specs.Outcomes.{and_then}
use Rattle.book.specs.State.{empty}
use Rattle.collateral.specs.Records.{nothing}
use Rattle.collateral.specs.declared.records.Collateral.{Collateral}
use Rattle.lines.specs.declared.reader.Reader.{Reader}
use Rattle.stream.specs.declared.reading.Stop.{Stop}
use Rattle.stream.specs.declared.reading.Stop.TheVariants.{Refused, Unread, Unwritten}
use Rattle.desk.specs.Dealings.{Dealing, deals}
use Rattle.desk.specs.Listings.{Writing, writes}
use Rattle.collateral.specs.Requirements.{Owes, owes}
use Rattle.desk.specs.Reports.{statements}
use Rattle.desk.specs.Runs.{Run, beginning, first_lines, with_input, with_sheet}
use Rattle.closing.specs.declared.days.Day.{Day}

-- an empty draft, with room for 16 classes and 128 series
abbrev pub blank : Writing
blank = record { draft = fresh 16 128; waits = None }

-- the lines up to E write on it: to a fault, if any, what was written, what is left of the input, and where the reader stands
abbrev pub WritesSheet : List ℕ → Option Fault → Writing → List ℕ → Reader → Type 0
WritesSheet xs o w ys r = Run writes with_sheet xs beginning blank o ys r w

-- a new book on the sheet of a draft, all its memory 0, and nothing brought yet
abbrev pub opening : Draft → Dealing
opening s = record {
  book = empty s.rates s.classes s.series 32 (replicate 8192 0);
  rates = s.rates;
  records = replicate 2 (replicate 5 nothing);
}

-- the lines after E deal on that book
abbrev pub DealsBook : Draft → List ℕ → Reader → Option Fault → Dealing → Type 0
DealsBook s ys r o d = (zs : List ℕ) × (t : Reader) × Run deals with_input ys r (opening s) o zs t d

-- the figures of a day: the rates of its currencies, what each account owes, and what was brought
pub record Figures : Type 0 where
  pub rates : List ℕ
  pub owed : List Owes
  pub records : List (List Collateral)

abbrev pub closed : Draft → Dealing → Result Figures Fault
closed s d = and_then (statements prime_meaning d.book) (λ xs. Ok (record { rates = s.rates; owed = xs; records = d.records }))

-- The bytes of an input give the fault of the first line that is refused, of the sheet or of the book, or else what the close of its book comes to.
pub data Margined (xs : List ℕ) (r : Result Figures Fault) : Type 0 where
  no_sheet : (f : Fault) (w : Writing) (ys : List ℕ) (t : Reader) → WritesSheet xs (Some f) w ys t → r ≡ Err f → Margined xs r
  no_book : (w : Writing) (ys : List ℕ) (t : Reader) (f : Fault) (d : Dealing) → WritesSheet xs None w ys t → DealsBook w.draft ys t (Some f) d → r ≡ Err f → Margined xs r
  margined : (w : Writing) (ys : List ℕ) (t : Reader) (d : Dealing) → WritesSheet xs None w ys t → DealsBook w.draft ys t None d → r ≡ closed w.draft d → Margined xs r

-- an input has one outcome
abbrev pub OneOutcome : Type 0
OneOutcome = (xs : List ℕ) (r s : Result Figures Fault) → Margined xs r → Margined xs s → r ≡ s

-- the fault of line n stands whatever follows: every input with the same first n lines has it
abbrev pub FaultOfLine : Type 0
FaultOfLine = (n : ℕ) (f : Fault) (xs ys : List ℕ) → f.place.line ≡ Some n → first_lines n xs ≡ first_lines n ys → Margined xs (Err f) → Margined ys (Err f)

-- the figures of a day that was read, as plain values
abbrev pub figures : Day → Figures
figures day = record { rates = day.rates.by_number; owed = map owes day.statements; records = day.ledger.records }

-- what is told of an input: its figures or its fault; nothing where it could not be read
abbrev pub told : Result Day Stop → Option (Result Figures Fault)
told (Ok day) = Some (Ok (figures day))
told (Err (Refused f)) = Some (Err f)
told (Err Unread) = None
told (Err Unwritten) = None

abbrev pub MarginedInput : Option (List ℕ) → Result Day Stop → Type 0
MarginedInput left r = IfSome left (λ xs. IfSome (told r) (λ answer. Margined xs answer))
