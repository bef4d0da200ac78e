-- The accounts of a book.
use Rattle.std.specs.Prelude.{ℕ, List, Some, None, Option}
use Rattle.std.specs.List.{slice_get}
use Rattle.terms.specs.declared.names.Name.{Name}
use Rattle.terms.specs.Names.{spelled}
use Rattle.register.specs.Rows.{sought}
use Rattle.book.specs.declared.rows.AccountRow.{AccountRow}

-- Accounts stand in ascending order of the bytes of their names.
abbrev pub account_rank : AccountRow → List ℕ
account_rank a = spelled a.name

-- the row at a place that was found, and its opening number
abbrev pub row_at : List AccountRow → Option ℕ → Option AccountRow
row_at rows None = None
row_at rows (Some i) = slice_get rows i

abbrev pub number_of : Option AccountRow → Option ℕ
number_of None = None
number_of (Some a) = Some a.slot

-- the opening number of the account with a name
abbrev pub slot_in : List AccountRow → Name → Option ℕ
slot_in rows n = number_of (row_at rows (sought account_rank (spelled n) rows))
