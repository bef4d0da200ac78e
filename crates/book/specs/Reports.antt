-- What an account of a book comes to.
use Rattle.std.specs.Prelude.{◌≡◌, ℕ, cond, List, length, is_some, Some, None, Ok, Err, Option, Result, option_map, filter_map}
use Rattle.std.specs.List.{range_with_len}
use Rattle.terms.specs.declared.faults.Fault.{Fault}
use Rattle.terms.specs.declared.words.Leg.{Leg}
use Rattle.terms.specs.declared.words.Leg.TheVariants.{Long, Short}
use Rattle.terms.specs.Names.{named, spelled}
use Rattle.register.specs.Rows.{sought}
use Rattle.charge.specs.Meanings.{Meaning}
use Rattle.account.specs.declared.rule.AccountReport.{AccountReport}
use Rattle.account.specs.Outcomes.{and_then}
use Rattle.account.specs.Plain.{plain_report}
use Rattle.account.specs.Rule.{account_report}
use Rattle.book.specs.declared.rows.AccountRow.{AccountRow}
use Rattle.book.specs.Found.{not_there, outside}
use Rattle.book.specs.Limits.{name_of}
use Rattle.book.specs.Reads.{numbered, counts_of}
use Rattle.book.specs.Rows.{account_rank, row_at}
use Rattle.book.specs.State.{State}

-- the report of a row's account, by a charge
abbrev pub row_report : Meaning → State → AccountRow → Result AccountReport Fault
row_report m s a = account_report m a.name a.basis s.rates s.classes s.series (counts_of s a.slot Long) (counts_of s a.slot Short)

-- what a row's account comes to with no limit on any figure
abbrev pub own_report : Meaning → State → AccountRow → AccountReport
own_report m s a = plain_report m a.basis s.rates s.classes s.series (counts_of s a.slot Long) (counts_of s a.slot Short)

-- the report of the account that was opened as the k-th; none where fewer are open
abbrev pub nth_report : Meaning → State → ℕ → Option (Result AccountReport Fault)
nth_report m s k = option_map (row_report m s) (numbered k s.accounts)

-- What an account comes to is its own: it is the same in any two books of one sheet in which it has the same name, basis and counts, whatever
-- the other accounts are and have. So no account's credit lessens what another owes.
pub record OwnAlone : Type 0 where
  pub same : (m : Meaning) (s t : State) (a b : AccountRow) → s.rates ≡ t.rates → s.classes ≡ t.classes → s.series ≡ t.series → a.name ≡ b.name → a.basis ≡ b.basis
      → ((l : Leg) → counts_of s a.slot l ≡ counts_of t b.slot l) → row_report m s a ≡ row_report m t b

-- the account that a text names; refused 3 where the text is no name, 5 where no account has it
abbrev pub there_or : {A : Type 0} → Option A → Fault → Result A Fault
there_or (Some a) f = Ok a
there_or None f = Err f

abbrev pub named_row : State → List ℕ → Result AccountRow Fault
named_row s t = cond (is_some (named t)) (there_or (row_at s.accounts (sought account_rank (spelled (name_of t)) s.accounts)) (not_there (Some (name_of t)) None)) (Err outside)

-- the report of the account that a text names
abbrev pub named_report : Meaning → State → List ℕ → Result AccountReport Fault
named_report m s t = and_then (named_row s t) (row_report m s)

-- The accounts in opening order: the 0-th, the 1st, and so on, as many as there are. In a book each of these numbers is one account's.
abbrev pub in_opening_order : List AccountRow → List AccountRow
in_opening_order rows = filter_map (λ k. numbered k rows) (range_with_len 0 (length rows))
