use Rattle.charge.proofs.Theorems.{greater_law}
use Rattle.charge.proofs.laws.greater_stands.Goals as goal

pub returns : goal.returns
returns c = record { law = greater_law }
