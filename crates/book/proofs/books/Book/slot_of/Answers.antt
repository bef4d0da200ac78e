-- The row that is found keeps its opening number, which is below the number of accounts.
use Rattle.std.proofs.Common.{◌≡◌, length}
use Rattle.register.specs.Held.{held}
use Rattle.book.proofs.Slots.{slot_below}
use Rattle.book.proofs.books.Book.slot_of.Goals as goal

pub returns-clause-bound : goal.returns-clause-bound
returns-clause-bound c =
    let s = c.args.self.now in
    let rows = held s.accounts in
    λ k e. let same : c.in_ok-row.row.slot ≡ k = cc in rw same at (slot_below (length rows) rows c.in_ok-place.place c.in_ok-row.row s.accounts_numbered c.in_ok-row.ensures.value)
