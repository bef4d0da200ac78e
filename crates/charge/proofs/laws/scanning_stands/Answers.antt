use Rattle.charge.proofs.Theorems.{scanning_law}
use Rattle.charge.proofs.laws.scanning_stands.Goals as goal

pub returns : goal.returns
returns c = record { law = scanning_law }
