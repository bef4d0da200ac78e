use Rattle.std.proofs.Common.{arith}
use Rattle.std.proofs.lemmas.Grind.{common_steps}
use Rattle.collateral.proofs.ledger.Ledger.deposit.Goals as goal

pub overflow_add-raised : goal.overflow_add-raised
overflow_add-raised c = grind (arith, common_steps, c.args.self.now.ceiling)
