use Rattle.std.proofs.Common.{rules, arith}
use Rattle.lines.proofs.record.read_close_out.Goals as goal

pub returns : goal.returns
returns c = record { fit = search rules; reads = search rules; only = λ e o q. grind arith }
