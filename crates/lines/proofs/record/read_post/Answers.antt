use Rattle.std.proofs.Common.{rules, arith}
use Rattle.lines.proofs.record.read_post.Goals as goal

pub returns-in_err-leg : goal.returns-in_err-leg
returns-in_err-leg c = rw c.from_residual-in_err-leg.ensures (λ e o q. grind arith)

pub returns : goal.returns
returns c = record { fit = search rules; reads = search rules; only = λ e o q. grind arith }
