use Rattle.account.proofs.Offsets.{law}
use Rattle.account.proofs.offset.CurrencySums.offset.Goals as goal

pub returns-clause-law : goal.returns-clause-law
returns-clause-law c =
    let o = rw c.fund.ensures.value at c.settle.ensures.owed in
    rw (c.settle.ensures.requirement, o) (law c.args.self.now.sums c.args.self.now.rates c.args.self.now.limits.rated)
