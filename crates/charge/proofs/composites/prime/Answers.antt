use Rattle.std.proofs.Common.{refl}
use Rattle.charge.proofs.Theorems.{prime_lawful}
use Rattle.charge.proofs.composites.prime.Goals as goal

pub returns : goal.returns
returns c = record { meaning = refl; law = prime_lawful }
