use Rattle.std.proofs.Common.{◌≡◌, ◌-◌, Ok, rules}
use Rattle.stream.proofs.Left.{refilled}
use Rattle.stream.proofs.lines.LineReader.refill.Goals as goal

pub returns-clause-keeps : goal.returns-clause-keeps
returns-clause-keeps g c =
    let s = c.args.self.now in
    let n = c.in_ok-n.n in
    let was : c.read.result ≡ Ok n = search rules in
    let given = rw was at c.read.ensures in
    rw c.copy_within.ensures.after
    (refilled s.bytes c.read.new.buf s.from s.to n s.ordered (search rules) given.bound.0 (65618 - (s.to - s.from)) _ _ given.bytes.0)
