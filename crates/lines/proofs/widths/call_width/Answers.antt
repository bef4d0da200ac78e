use Rattle.std.proofs.Common.{rules}
use Rattle.lines.proofs.Bytes.{call_bytes}
use Rattle.lines.proofs.widths.call_width.Goals as goal

pub returns : goal.returns
returns c = search (rules, call_bytes)
