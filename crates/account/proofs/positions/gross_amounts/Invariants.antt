use Rattle.std.proofs.Common.{◌≡◌, ◌*◌, ◌≤◌, length, drop, replicate, pos, nat_abs}
use Rattle.terms.specs.declared.words.Basis.TheVariants.{Gross}
use Rattle.sheet.specs.Plain.{plain}
use Rattle.account.specs.Outcomes.{plus}
use Rattle.account.specs.Pieces.{pieces}
use Rattle.account.specs.Figures.{amounts}
use Rattle.account.proofs.positions.gross_amounts.Given as goal

abbrev pub invariant-loop-i : goal.invariant-loop-i
invariant-loop-i g l =
    let all = amounts (g.C.Charge.meaning l.charge) (plain l.position.class.now) in
    record {
      clear : l.piece ≡ replicate (length l.position.counts.now) (pos 0);
      long : length l.piece ≡ length l.position.counts.now;
      bound : nat_abs l.total ≤ l.i * 100000000000;
      ahead : plus l.total (all (drop l.i (pieces Gross l.position.counts.now))) ≡ all (pieces Gross l.position.counts.now);
    }
