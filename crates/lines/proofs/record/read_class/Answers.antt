use Rattle.std.proofs.Common.{arith}
use Rattle.lines.proofs.record.read_class.Goals as goal

pub returns-in_err-currency : goal.returns-in_err-currency
returns-in_err-currency c = rw c.from_residual-in_err-currency.ensures (λ e o q. grind arith)
