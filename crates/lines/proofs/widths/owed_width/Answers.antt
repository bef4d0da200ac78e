use Rattle.std.proofs.Common.{rules}
use Rattle.lines.proofs.Bytes.{owed_bytes}
use Rattle.lines.proofs.widths.owed_width.Goals as goal

pub returns : goal.returns
returns c = search (rules, owed_bytes)
