use Rattle.std.proofs.Common.{rules, ◌<◌}
use Rattle.collateral.specs.Blanks.{counted}
use Rattle.collateral.proofs.Filled.{one_more}
use Rattle.collateral.proofs.statements.Statements.push.Goals as goal

pub invariant_of-self : goal.invariant_of-self
invariant_of-self c =
    let inside = c.self.inside in
    let fewer : inside.count < 32 = search (rules, counted inside.count inside.rows c.self.invariant, c.requires.room, c.self.view_is) in
    search (rules, one_more inside.count inside.rows c.args.statement c.self.invariant fewer)
