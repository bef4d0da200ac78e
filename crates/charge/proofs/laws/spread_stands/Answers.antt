use Rattle.charge.proofs.Theorems.{spread_law}
use Rattle.charge.proofs.laws.spread_stands.Goals as goal

pub returns : goal.returns
returns c = record { law = spread_law }
