use Rattle.std.proofs.Common.{◌≡◌, length, take}
use Rattle.lines.proofs.Rows.{Rows}
use Rattle.lines.proofs.record.read_array.Given as goal

abbrev pub invariant-loop-value : goal.invariant-loop-value
invariant-loop-value l = record { read : Rows l.s (take l.value-index l.value-items) l.rest; eight : length l.value-items ≡ 8 }
