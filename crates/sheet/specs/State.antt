-- A draft of the sheet as plain values: what each call does, and when it is refused.
use Rattle.std.specs.Prelude.{◌≡◌, ℕ, min, Bool, not, ◌&&◌, List, [], ◌∷◌, length, ℤ, is_some, Some, None, Ok, Err, Option, Result, nat_lt, slice_set}
use borrow.Author.Differences.{up}
use Rattle.terms.specs.Codes.{lettered}
use Rattle.terms.specs.Faults.{refused, unless, with_class, with_currency}
use Rattle.terms.specs.Keys.{figured}
use Rattle.terms.specs.Words.{currency_number}
use Rattle.terms.specs.declared.codes.Code.{Code}
use Rattle.terms.specs.declared.faults.Fault.{Fault}
use Rattle.terms.specs.declared.keys.SeriesKey.{SeriesKey}
use Rattle.terms.specs.declared.words.Currency.{Currency}
use Rattle.terms.specs.declared.words.Layer.TheVariants.{Book}
use Rattle.terms.specs.declared.words.Refusal.{Refusal}
use Rattle.terms.specs.declared.words.Refusal.TheVariants.{Limit, Twice, Unknown, Full}
use Rattle.std.specs.List.{insert}
use Rattle.register.specs.Rows.{place, sought}
use Rattle.sheet.specs.declared.rows.ClassRow.{ClassRow}
use Rattle.sheet.specs.declared.rows.Listing.{Listing}
use Rattle.sheet.specs.declared.rows.Series.{Series}
use Rattle.sheet.specs.Limits.{rate_fits, quoted, terms_fit, published, line_fits, values_fit, keyed, listed_row}
use Rattle.sheet.specs.Rows.{class_rank, series_rank}

-- the rates by the currencies' numbers, the rows, and for how many rows the lent memory has room
pub record State : Type 0 where
  pub rates : List ℕ
  pub classes : List ClassRow
  pub series : List Series
  pub class_room : ℕ
  pub series_room : ℕ

-- HKD is always on the sheet, at 10,000.
abbrev pub fresh : ℕ → ℕ → State
fresh m n = record { rates = 10000 ∷ 0 ∷ 0 ∷ 0 ∷ 0 ∷ []; classes = []; series = []; class_room = m; series_room = n }

-- the calls, with what they are given
pub data Use : Type 0 where
  Rate : Currency → ℤ → Use
  Class : Code → Currency → Option ℤ → ℤ → Use
  Listed : Listing → List ℤ → Use

-- ---- when a call is refused: of the rows Limit, Twice, Unknown, Full the earliest decides
abbrev pub book : Refusal → Fault
book e = refused e Book

-- a key that no row has yet, and one that a row has
abbrev pub free : {R : Type 0} → (R → List ℕ) → List ℕ → List R → Bool
free rank k rows = not (is_some (sought rank k rows))

abbrev pub there : {R : Type 0} → (R → List ℕ) → List ℕ → List R → Bool
there rank k rows = is_some (sought rank k rows)

-- one more row: at most `most`, and no more than the lent memory holds
abbrev pub room_left : {R : Type 0} → ℕ → ℕ → List R → Bool
room_left most room rows = nat_lt (length rows) (min most room)

-- a series' key is refused that the sheet has already, or whose class it has not
abbrev pub key_fault : State → SeriesKey → Option Fault → Option Fault
key_fault s k rest =
    unless (free series_rank (figured k) s.series) (with_class k.class (book Twice))
    (unless (there class_rank (lettered k.class) s.classes) (with_class k.class (book Unknown)) rest)

-- a series is refused for which there is no room
abbrev pub full_fault : State → Option Fault
full_fault s = unless (room_left 128 s.series_room s.series) (book Full) None

-- the parts of a series that its own line has
abbrev pub line_fault : State → Listing → Option Fault
line_fault s l = unless (line_fits l) (book Limit) (key_fault s (keyed l.key) (full_fault s))

-- amounts of a risk array
abbrev pub values_fault : List ℤ → Option Fault
values_fault zs = unless (values_fit zs) (book Limit) None

abbrev pub fault_of : State → Use → Option Fault
fault_of s (Rate c z) =
    unless (rate_fits z) (book Limit)
    (unless (not (quoted s.rates c)) (with_currency c (book Twice)) None)
fault_of s (Class code c spread minimum) =
    unless (terms_fit code spread minimum) (book Limit)
    (unless (free class_rank (lettered code) s.classes) (with_class code (book Twice))
    (unless (quoted s.rates c) (with_currency c (book Unknown))
    (unless (room_left 16 s.class_room s.classes) (book Full) None)))
fault_of s (Listed l array) =
    unless (line_fits l && values_fit array) (book Limit) (key_fault s (keyed l.key) (full_fault s))

-- ---- what a call does that is not refused
-- the rows with one more, in its place
abbrev pub joined : {R : Type 0} → (R → List ℕ) → R → List R → List R
joined rank row rows = insert rows (place rank (rank row) rows) row

abbrev pub done : State → Use → State
done s (Rate c z) = record { rates = slice_set s.rates (currency_number c) (up z); classes = s.classes; series = s.series; class_room = s.class_room; series_room = s.series_room }
done s (Class code c spread minimum) = record {
  rates = s.rates;
  classes = joined class_rank (record { code = code; currency = c; spread_rate = published spread; minimum_rate = up minimum }) s.classes;
  series = s.series;
  class_room = s.class_room;
  series_room = s.series_room;
}
done s (Listed l array) = record {
  rates = s.rates;
  classes = s.classes;
  series = joined series_rank (listed_row l array) s.series;
  class_room = s.class_room;
  series_room = s.series_room;
}

-- a refusal leaves all as it was
abbrev pub after : State → Use → Option Fault → State
after s u None = done s u
after s u (Some e) = s

-- the fault that the answer of a register makes, if any
abbrev pub entry_fault : Result ℕ Refusal → Option Fault
entry_fault (Ok i) = None
entry_fault (Err e) = Some (book e)

-- one call: it is refused or not, and leaves the draft as it says
pub record Step (s : State) (u : Use) (o : Option Fault) (t : State) : Type 0 where
  pub fault : o ≡ fault_of s u
  pub state : t ≡ after s u o
