use Rattle.sheet.specs.Plain.{plain}
use Rattle.account.proofs.Charges.{amount_made}
use Rattle.account.proofs.positions.amounts.Goals as goal

pub returns-in-Net-clause-bound : goal.returns-in-Net-clause-bound
returns-in-Net-clause-bound g c = amount_made (g.C.Charge.meaning c.args.charge.now) (plain c.args.position.now.class.now) c.args.position.now.counts.now c.amount.result c.amount.ensures.answer
