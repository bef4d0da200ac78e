-- What is read of a book.
use Rattle.std.specs.Prelude.{ℕ, cond, List, [], length, take, drop, Option, ◌==◌, nat_lt}
use Rattle.std.specs.List.{find}
use Rattle.terms.specs.declared.words.Leg.{Leg}
use Rattle.book.specs.declared.rows.AccountRow.{AccountRow}
use Rattle.book.specs.State.{State, cell}

-- the account with an opening number
abbrev pub numbered : ℕ → List AccountRow → Option AccountRow
numbered k rows = find (λ a. a.slot == k) rows

-- the counts of one leg of an account, beside the series of the sheet; none where no account has the opening number
abbrev pub counts_of : State → ℕ → Leg → List ℕ
counts_of s i l = cond (nat_lt i (length s.accounts)) (take (length s.series) (drop (cell i 0 l) s.counts)) []
