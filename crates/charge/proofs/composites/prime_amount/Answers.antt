use Rattle.charge.proofs.Parts.{figure_made}
use Rattle.charge.proofs.composites.prime_amount.Goals as goal

pub returns-clause-figure : goal.returns-clause-figure
returns-clause-figure c = figure_made _ _ _ _ _ c.amount.ensures.answer
