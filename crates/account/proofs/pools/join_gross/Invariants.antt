use Rattle.std.proofs.Common.{◌≡◌, ◌*◌, ◌≤◌, length, drop, replicate, pos, nat_abs}
use Rattle.terms.specs.declared.words.Basis.TheVariants.{Gross}
use Rattle.sheet.specs.Plain.{plain}
use Rattle.account.specs.Outcomes.{plus}
use Rattle.account.specs.Pieces.{pieces}
use Rattle.account.specs.Pools.{joined_from, joins}
use Rattle.account.proofs.pools.join_gross.Given as goal

abbrev pub invariant-loop-i : goal.invariant-loop-i
invariant-loop-i g l =
    let all = joins (g.C.Charge.meaning l.charge) (plain l.position.class.now) in
    let ps = pieces Gross l.position.counts.now in
    record {
      clear : l.piece ≡ replicate (length l.position.counts.now) (pos 0);
      long : length l.piece ≡ length l.position.counts.now;
      bound : nat_abs l.total ≤ l.i * 100000000000;
      ahead : plus l.total (all l.pooled (drop l.i ps)) ≡ all l.fn.pooled ps;
      after : joined_from l.pooled (drop l.i ps) ≡ joined_from l.fn.pooled ps;
    }
