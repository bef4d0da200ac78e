-- A book as plain values.
use Rattle.std.specs.Prelude.{ℕ, ◌+◌, ◌*◌, List, [], replicate, slice_index, slice_set}
use Rattle.std.proofs.Math.Seq.{paste}
use Rattle.terms.specs.declared.words.Leg.{Leg}
use Rattle.terms.specs.Words.{leg_number}
use Rattle.sheet.specs.declared.rows.ClassRow.{ClassRow}
use Rattle.sheet.specs.declared.rows.Series.{Series}
use Rattle.book.specs.declared.rows.AccountRow.{AccountRow}

-- A book stands on a sheet; it has accounts in the order of their names, and counts in opening order.
-- The rooms are what the lent memory holds: `room` account rows, and as many counts as the list is long.
pub record State : Type 0 where
  pub rates : List ℕ
  pub classes : List ClassRow
  pub series : List Series
  pub accounts : List AccountRow
  pub counts : List ℕ
  pub room : ℕ

-- Where the count of an account, a leg and a series stands: 256 to an account, 128 to a leg.
abbrev pub cell : ℕ → ℕ → Leg → ℕ
cell i j l = i * 256 + leg_number l * 128 + j

-- the count there
abbrev pub held : State → ℕ → ℕ → Leg → ℕ
held s i j l = slice_index s.counts (cell i j l)

-- the book with other counts
abbrev pub at_counts : State → List ℕ → State
at_counts s xs = record { rates = s.rates; classes = s.classes; series = s.series; accounts = s.accounts; counts = xs; room = s.room }

-- the book with another number at one count
abbrev pub at_count : State → ℕ → ℕ → Leg → ℕ → State
at_count s i j l n = at_counts s (slice_set s.counts (cell i j l) n)

-- An account opens with all counts 0, whatever the memory held.
abbrev pub cleared : List ℕ → ℕ → List ℕ
cleared xs i = paste xs (i * 256) (replicate 256 0) 256

-- A new book has no accounts, and memory as it was lent.
abbrev pub empty : List ℕ → List ClassRow → List Series → ℕ → List ℕ → State
empty rates classes series room counts = record { rates = rates; classes = classes; series = series; accounts = []; counts = counts; room = room }
