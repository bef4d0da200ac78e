use Rattle.std.proofs.Common.{◌≡◌, sym, subst, arith}
use Rattle.std.proofs.lemmas.Grind.{common_steps}
use Rattle.account.specs.Offset.{owed_of, Owable}
use Rattle.account.proofs.Offsets.{owed_owable}
use Rattle.account.proofs.offset.CurrencySums.settle.Goals as goal

pub invariant_of-result-clause-modest : goal.invariant_of-result-clause-modest
invariant_of-result-clause-modest c =
    let self = c.args.self.now in
    let owed : c.loop-i.place-items ≡ owed_of c.args.fund self.sums self.rates = grind (arith, common_steps) in
    subst Owable (sym owed) (owed_owable c.args.fund self.sums self.rates self.limits.debits)
