use Rattle.std.proofs.Common.{◌∙◌, rules, tests}
use Rattle.register.specs.Held.{held}
use Rattle.std.specs.Bool.{◌==◌}
use Rattle.std.proofs.lemmas.Iterator.{YieldsList-from_slice}
use Rattle.std.proofs.lemmas.Iterator.Search.{find_from_yields_List}
use Rattle.book.specs.declared.rows.AccountRow.{AccountRow}
use Rattle.book.proofs.books.Book.account.Goals as goal

pub returns-clause-value : goal.returns-clause-value
returns-clause-value c =
    let rows = held c.args.self.now.accounts in
    c.copied.ensures ∙ find_from_yields_List (λ (row : AccountRow). row.slot == c.args.k) _ _ _ c.find.ensures.ran (YieldsList-from_slice rows cc) (λ x b q h. search (rules, tests))
