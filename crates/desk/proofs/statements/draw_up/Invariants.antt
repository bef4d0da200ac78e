use Rattle.std.proofs.Common.{◌≡◌, ◌≤◌, map, length}
use Rattle.book.specs.View.{view}
use Rattle.collateral.specs.Requirements.{owes}
use Rattle.desk.specs.Reports.{statements}
use Rattle.desk.proofs.DrawnUp.{followed_by, left}
use Rattle.desk.proofs.statements.draw_up.Given as goal

abbrev pub invariant-loop-k : goal.invariant-loop-k
invariant-loop-k g l =
    let m = g.C.Charge.meaning l.charge in
    record {
      room : length l.statements ≤ l.k;
      ahead : followed_by (map owes l.statements) (left m (view l.book) l.k) ≡ statements m (view l.book);
    }
