-- No account owes more than its statement's limit, and there are at most 32.
use Rattle.std.proofs.Common.{◌≡◌, ◌*◌, ◌≤◌, List, length, sum_by, arith, rules}
use Rattle.std.proofs.lemmas.List.Sums.{sum_by-le}
use Rattle.std.proofs.lemmas.Bool.Decides.{nat_tests}
use Rattle.terms.specs.declared.words.Currency.{Currency}
use Rattle.terms.specs.declared.words.Side.{Side}
use Rattle.terms.specs.Words.{currency_number}
use Rattle.collateral.specs.declared.statements.Statement.{Statement}
use Rattle.collateral.specs.Requirements.{owed_by, owes}
use Rattle.collateral.proofs.statements.Statements.requirement.Goals as goal

owed_by-le : (s : Side) (c : Currency) (a : Statement) → owed_by s c (owes a) ≤ 100000000000
owed_by-le s c a = let h = a.modest (currency_number c) in grind (arith, nat_tests)

sum-le : (s : Side) (c : Currency) (rows : List Statement) → sum_by (λ a. owed_by s c (owes a)) rows ≤ length rows * 100000000000
sum-le s c rows = sum_by-le (λ a. owed_by s c (owes a)) 100000000000 rows (λ k d lt. search owed_by-le)

pub returns-clause-bound : goal.returns-clause-bound
returns-clause-bound c =
    let rows = c.as_slice.result.now in
    let value : c.sum.result ≡ sum_by (λ a. owed_by c.args.side c.args.currency (owes a)) rows = search rules in
    omega (arith, sum-le c.args.side c.args.currency rows, c.as_slice.ensures.bound)
