use Rattle.std.proofs.Common.{rules}
use Rattle.lines.proofs.Bytes.{fault_bytes}
use Rattle.lines.proofs.widths.fault_width.Goals as goal

pub returns : goal.returns
returns c = search (rules, fault_bytes)
