use Rattle.std.proofs.Common.{◌≡◌, ℕ, ◌<◌, ◌≤◌, get_or, take, drop, pos, nat_abs}
use Rattle.account.specs.Outcomes.{each, onto}
use Rattle.account.specs.Figures.{figure_of}
use Rattle.account.proofs.figures.MarginedCounts.class_figures.Given as goal

abbrev pub invariant-loop-i : goal.invariant-loop-i
invariant-loop-i g l =
    let account = l.self.account in
    let one = figure_of (g.C.Charge.meaning l.charge) account.name account.basis account.sheet.series.now l.self.counts.now in
    let classes = account.sheet.classes.now in
    record {
      bounded : (k : ℕ) → k < l.i → nat_abs (get_or l.figures k (pos 0)) ≤ 12900000000000;
      ahead : onto (take l.i l.figures) (each one (drop l.i classes)) ≡ each one classes;
    }
