-- The second name is a name, and one of the accounts or the series is absent.
use Rattle.std.proofs.Common.{◌≡◌, true, false, is_some, [], sym, ap, rules}
use Rattle.std.specs.Option.{unwrap_or}
use Rattle.std.proofs.lemmas.Result.{err_from_is_err_and}
use Rattle.terms.specs.Names.{named}
use Rattle.book.specs.Limits.{name_of, same_account, fits}
use Rattle.book.specs.Found.{slot}
use Rattle.book.specs.View.{view}
use Rattle.book.proofs.Posted.{second_meets}
use Rattle.book.proofs.books.Book.pair.Goals as goal

pub returns-in_default-slot_of-clause-fault : goal.returns-in_default-slot_of-clause-fault
returns-in_default-slot_of-clause-fault c =
    let spelled : is_some (named c.args.to.now) ≡ true = ap is_some (sym c.in_ok-name.ensures) in
    search rules

pub returns-in_err-to-clause-fault : goal.returns-in_err-to-clause-fault
returns-in_err-to-clause-fault c =
    let s = view c.args.self.now in
    let spelled : is_some (named c.args.to.now) ≡ true = ap is_some (sym c.in_ok-name.ensures) in
    let name : c.in_ok-name.name ≡ name_of c.args.to.now = ap (λ o. unwrap_or o (record { text = [] })) c.in_ok-name.ensures in
    let apart : same_account c.args.from.now c.args.to.now ≡ false = search rules in
    let inside : fits c.args.from.now c.args.key c.args.contracts ≡ true = search rules in
    let source : is_some (slot s (name_of c.args.from.now)) ≡ true = search rules in
    let h = rw (name, c.in_ok-deal.ensures.named.key) at c.in_err-to.ensures.fault in
    let p = err_from_is_err_and c.from_residual-in_err-to.result c.from_residual-in_err-to.ensures.1 in
    rw (p.1, p.2) (second_meets s c.args.from.now c.args.to.now c.args.key c.args.contracts _ apart inside spelled source h)
