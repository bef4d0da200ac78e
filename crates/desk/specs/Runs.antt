-- The lines of an input, taken one after the other: the first refusal ends the reading.
use Rattle.std.specs.Prelude.{◌≡◌, ℕ, zero, suc, List, [], ◌∷◌, length, drop, Option, Some, None, Ok, Err, Result, IfSome}
use Rattle.lines.specs.Turns.{counted}
use Rattle.lines.specs.declared.reader.Reader.{Reader}
use Rattle.lines.specs.declared.reader.Section.{Section}
use Rattle.lines.specs.declared.reader.Section.TheVariants.{Sheet, FirstArray, SecondArray, Book}
use Rattle.lines.specs.declared.record.Record.{Record}
use Rattle.stream.specs.Lines.{first_line}
use Rattle.stream.specs.declared.reading.Stop.{Stop}
use Rattle.stream.specs.declared.reading.Stop.TheVariants.{Refused, Unread, Unwritten}
use Rattle.terms.specs.declared.faults.Fault.{Fault}
use Rattle.terms.specs.declared.words.Refusal.TheVariants.{Turn}
use Rattle.terms.specs.declared.words.Layer.TheVariants.{Line}
use Rattle.terms.specs.Faults.{refused, with_line}
use Rattle.desk.specs.Takings.{Takes}

-- where a reading begins: no line was taken, and the sheet's are due
abbrev pub beginning : Reader
beginning = record { section = Sheet; line = 0 }

-- what is left behind the first line
abbrev pub behind : List ℕ → List ℕ
behind xs = drop (length (first_line xs)) xs

-- the first n lines; those that are missing at the end are empty
abbrev pub first_lines : ℕ → List ℕ → List (List ℕ)
first_lines zero xs = []
first_lines (suc n) xs = first_line xs ∷ first_lines n (behind xs)

-- an input that ends before E is refused 2, at the line that would come next
abbrev pub early : Reader → Fault
early r = with_line (counted r.line) (refused Turn Line)

-- Whether the reading is over, and with which fault. The sheet's lines end with E, which leads to the book;
abbrev pub sheet_over : Section → Reader → List ℕ → Option (Option Fault)
sheet_over Book r xs = Some None
sheet_over Sheet r [] = Some (Some (early r))
sheet_over FirstArray r [] = Some (Some (early r))
sheet_over SecondArray r [] = Some (Some (early r))
sheet_over Sheet r (x ∷ xs) = None
sheet_over FirstArray r (x ∷ xs) = None
sheet_over SecondArray r (x ∷ xs) = None

abbrev pub with_sheet : Reader → List ℕ → Option (Option Fault)
with_sheet r xs = sheet_over r.section r xs

-- the book's lines end with the input.
abbrev pub with_input : Reader → List ℕ → Option (Option Fault)
with_input r [] = Some None
with_input r (x ∷ xs) = None

-- From an input, a reader and a desk to a fault, if any, and to what is left, the reader and the desk: while it is not over, the first
-- line is taken; one that is refused ends the reading.
pub data Run {D : Type 0} (judged : D → Section → Record → Option Fault → D → Type 0) (over : Reader → List ℕ → Option (Option Fault)) : List ℕ → Reader → D → Option Fault → List ℕ → Reader → D → Type 0 where
  ended : (xs : List ℕ) (r : Reader) (d : D) (o : Option Fault) → over r xs ≡ Some o → Run judged over xs r d o xs r d
  refused_line : (xs : List ℕ) (r : Reader) (d : D) (f : Fault) (s : Reader) (e : D) → over r xs ≡ None
      → Takes judged (first_line xs) r d (Err f) s e → Run judged over xs r d (Some f) (behind xs) s e
  taken_line : (xs : List ℕ) (r : Reader) (d : D) (s : Reader) (e : D) (o : Option Fault) (ys : List ℕ) (t : Reader) (g : D) → over r xs ≡ None
      → Takes judged (first_line xs) r d (Ok tt) s e → Run judged over (behind xs) s e o ys t g → Run judged over xs r d o ys t g

-- how a reading ended: without a fault, or with one; nothing is said where the input could not be read
abbrev pub verdict : Result Unit Stop → Option (Option Fault)
verdict (Ok u) = Some None
verdict (Err (Refused f)) = Some (Some f)
verdict (Err Unread) = None
verdict (Err Unwritten) = None

-- a reading of an input whose bytes are known is a run
abbrev pub Ran : {D : Type 0} → (D → Section → Record → Option Fault → D → Type 0) → (Reader → List ℕ → Option (Option Fault))
    → Option (List ℕ) → Reader → D → Result Unit Stop → Option (List ℕ) → Reader → D → Type 0
Ran judged over left r d result left' s e =
    IfSome left (λ xs. IfSome (verdict result) (λ o. (ys : List ℕ) × (left' ≡ Some ys) × Run judged over xs r d o ys s e))
