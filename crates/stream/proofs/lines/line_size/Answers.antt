use Rattle.stream.proofs.Cuts.{first_line-fed, first_line-cut, first_line-last}
use Rattle.stream.proofs.lines.line_size.Goals as goal

pub returns-in-Some-clause-seen : goal.returns-in-Some-clause-seen
returns-in-Some-clause-seen c =
    let first = c.in-Some.ensures in
    λ more. first_line-fed c.args.held.now c.min.result c.min.ensures more c.in-Some.at first.0.high first.0.before first.1

pub returns-in-None-clause-seen : goal.returns-in-None-clause-seen
returns-in-None-clause-seen c =
    λ more. first_line-cut c.args.held.now c.min.result c.min.ensures more c.if-held-gt-LONGEST.true c.in-None.ensures

pub returns-in-None-2-clause-unseen : goal.returns-in-None-2-clause-unseen
returns-in-None-2-clause-unseen c =
    first_line-last c.args.held.now c.min.result c.min.ensures c.if-held-gt-LONGEST.false c.in-None.ensures
