-- A dealing is an event by its step.
use Rattle.std.proofs.Common.{w64, SFits, rules}
use Rattle.std.proofs.lemmas.Int.{to_z-of_z}
use Rattle.book.specs.Events.{makes}
use Rattle.book.proofs.books.Book.call.Goals as goal

pub returns-in-Open : goal.returns-in-Open
returns-in-Open g c = rw c.in-Open.is (record { happens = makes c.open-outcome.ensures.step })

pub returns-in-Post : goal.returns-in-Post
returns-in-Post g c =
    let fits : SFits w64 c.in-Post.contracts = search rules in
    rw c.in-Post.is (record { happens = makes (rw (to_z-of_z w64 c.in-Post.contracts fits) at c.post-outcome.ensures.step) })

pub returns-in-CloseOut : goal.returns-in-CloseOut
returns-in-CloseOut g c =
    let fits : SFits w64 c.in-CloseOut.contracts = search rules in
    rw c.in-CloseOut.is (record { happens = makes (rw (to_z-of_z w64 c.in-CloseOut.contracts fits) at c.close_out-outcome.ensures.step) })

pub returns-in-Move : goal.returns-in-Move
returns-in-Move g c =
    let fits : SFits w64 c.in-Move.contracts = search rules in
    rw c.in-Move.is (record { happens = makes (rw (to_z-of_z w64 c.in-Move.contracts fits) at c.move_contracts-outcome.ensures.step) })
