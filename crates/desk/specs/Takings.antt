-- How a line is taken or refused: its form and its turn, what its record does, and its number.
use Rattle.std.specs.Prelude.{◌≡◌, ℕ, List, Option, Some, None, Bool, ◌||◌, nat_lt, if◌then◌else◌, Ok, Err, Result, MatchResult}
use Rattle.lines.specs.Columns.{Is, Isnt}
use Rattle.lines.specs.Records.{Sound, meant, written}
use Rattle.lines.specs.Turns.{counted, turn}
use Rattle.lines.specs.declared.reader.Reader.{Reader}
use Rattle.lines.specs.declared.reader.Section.{Section}
use Rattle.lines.specs.declared.record.Record.{Record}
use Rattle.terms.specs.declared.faults.Fault.{Fault}
use Rattle.terms.specs.declared.words.Refusal.TheVariants.{BadLine, Turn, Full}
use Rattle.terms.specs.declared.words.Layer.TheVariants.{Line}
use Rattle.terms.specs.Faults.{refused, with_line}
use Rattle.terms.specs.Words.{refusal_number}

-- whether a fault stands at a line: at line 1,000,000 it does where its row is before that of a full register
abbrev pub stands : ℕ → Fault → Bool
stands n f = nat_lt n 1000000 || nat_lt (refusal_number f.refusal) (refusal_number Full)

-- the answer of line n: a fault takes the line's number, and line 1,000,000 is refused 6 of layer line unless an earlier row decides
abbrev pub numbered : ℕ → Result Reader Fault → Result Reader Fault
numbered n (Ok r) = if nat_lt n 1000000 then Ok r else Err (with_line n (refused Full Line))
numbered n (Err f) = Err (with_line n (if stands n f then f else refused Full Line))

-- a line is not due: it is no record's form, or it is not its record's turn
pub data NotDue (line : List ℕ) (reader : Reader) (f : Fault) : Type 0 where
  no_form : Isnt written Sound line → f ≡ refused BadLine Line → NotDue line reader f
  no_turn : (rec : Record) → Is written Sound line (meant rec) → turn reader.section rec ≡ None → f ≡ refused Turn Line → NotDue line reader f

-- a line is due: its record, and where the reader stands behind it
pub record Due (line : List ℕ) (reader : Reader) (rec : Record) (next : Reader) : Type 0 where
  pub form : Is written Sound line (meant rec)
  pub turns : turn reader.section rec ≡ Some next.section
  pub counts : next.line ≡ counted reader.line

-- The record of a line that is due is judged: a fault is handed up, and otherwise the reader goes on. Only the judging alters anything.
pub data Answers {D : Type 0} (judged : D → Section → Record → Option Fault → D → Type 0) (line : List ℕ) (reader : Reader) (d : D) (r : Result Reader Fault) (e : D) : Type 0 where
  not_due : (f : Fault) → NotDue line reader f → r ≡ Err f → e ≡ d → Answers judged line reader d r e
  faulty : (rec : Record) (next : Reader) (f : Fault) → Due line reader rec next → judged d reader.section rec (Some f) e → r ≡ Err f → Answers judged line reader d r e
  taken : (rec : Record) (next : Reader) → Due line reader rec next → judged d reader.section rec None e → r ≡ Ok next → Answers judged line reader d r e

-- A line is taken or refused: its answer takes the line's number, and the reader goes on only where it is taken.
pub record Takes {D : Type 0} (judged : D → Section → Record → Option Fault → D → Type 0) (line : List ℕ) (reader : Reader) (d : D) (r : Result Unit Fault) (reader' : Reader) (e : D) : Type 0 where
  pub answer : Result Reader Fault
  pub answered : Answers judged line reader d answer e
  pub told : MatchResult r (λ _. numbered (counted reader.line) answer ≡ Ok reader') (λ f. (numbered (counted reader.line) answer ≡ Err f) × (reader' ≡ reader))
