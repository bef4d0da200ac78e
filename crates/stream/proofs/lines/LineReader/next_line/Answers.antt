use Rattle.std.proofs.Common.{rules, ◌≡◌, ◌-◌, length, drop, refl, arith, Some, Ok}
use Rattle.std.proofs.lemmas.List.{length-take-le, length-drop}
use Rattle.stream.specs.Readers.{held}
use Rattle.stream.proofs.Left.{handed, held_rest, left}
use Rattle.stream.proofs.lines.LineReader.next_line.Goals as goal

pub returns : goal.returns
returns g c =
    let s = c.next_size.new.self in
    let size = c.in-Some.size in
    let some : c.next_size.result ≡ Ok (Some size) = search rules in
    let given = rw some at c.next_size.ensures in
    let array : length s.bytes ≡ 65618 = search rules in
    let long = length-take-le (s.to - s.from) (drop s.from s.bytes) (omega (arith, length-drop s.from s.bytes, array)) in
    let rest = left _ _ (held s) _ size (omega (arith, long)) (held_rest s.bytes s.from s.to size given.within) given.keeps given.first in
    ((refl, λ _. tt, rest), record { line = handed _ s.bytes s.from s.to size given.some (omega (arith, long)) given.within given.first; failed = tt; rest = tt })
