use Rattle.std.proofs.Common.{◌≡◌, take}
use Rattle.std.specs.Str.Parse.{AllDigits, digits_value}
use Rattle.lines.proofs.columns.Field.digits.Given as goal

abbrev pub invariant-loop-c : goal.invariant-loop-c
invariant-loop-c l = record { figures : AllDigits 10 (take l.c-index l.self.bytes.now); value : l.n ≡ digits_value 10 (take l.c-index l.self.bytes.now) }
