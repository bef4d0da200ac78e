-- What the accounts of a book owe.
use Rattle.std.specs.Prelude.{List, [], ◌∷◌, Ok, Result}
use Rattle.terms.specs.declared.faults.Fault.{Fault}
use Rattle.charge.specs.Meanings.{Meaning}
use Rattle.account.specs.Outcomes.{and_then}
use Rattle.collateral.specs.Requirements.{Owes}
use Rattle.book.specs.declared.rows.AccountRow.{AccountRow}
use Rattle.book.specs.State.{State}
use Rattle.book.specs.Reports.{row_report, in_opening_order}

-- what the account of a row owes, or the fault of its report
abbrev pub statement : Meaning → State → AccountRow → Result Owes Fault
statement m s a = and_then (row_report m s a) (λ r. Ok (record { name = a.name; side = a.side; owed = r.owed }))

-- the same of each row, or the fault of the first account that cannot be margined
abbrev pub statement_of_each : Meaning → State → List AccountRow → Result (List Owes) Fault
statement_of_each m s [] = Ok []
statement_of_each m s (a ∷ rows) = and_then (statement m s a) (λ x. and_then (statement_of_each m s rows) (λ xs. Ok (x ∷ xs)))

-- the statements of a book's accounts, in opening order
abbrev pub statements : Meaning → State → Result (List Owes) Fault
statements m s = statement_of_each m s (in_opening_order s.accounts)
