use Rattle.sheet.specs.Plain.{plain}
use Rattle.account.proofs.Joins.{allowance_made}
use Rattle.account.proofs.pools.join.Goals as goal

pub returns-in-Net-clause-bound : goal.returns-in-Net-clause-bound
returns-in-Net-clause-bound g c = allowance_made (g.C.Charge.meaning c.args.charge.now) (plain c.args.position.now.class.now) c.args.pooled.now c.args.position.now.counts.now c.join_piece.result c.join_piece.ensures.answer
