use Rattle.std.proofs.Common.{◌≡◌, ℕ, ◌≤◌, ◌++◌, length, get_or, take, drop, pos, nat_abs}
use Rattle.charge.specs.Positions.{joined}
use Rattle.account.proofs.pools.add.Given as goal

abbrev pub invariant-loop-i : goal.invariant-loop-i
invariant-loop-i l =
    record {
      long : length l.pooled ≡ length l.piece;
      small : (k : ℕ) → l.i ≤ k → nat_abs (get_or l.pooled k (pos 0)) ≤ 3200000;
      ahead : take l.i l.pooled ++ joined (drop l.i l.pooled) (drop l.i l.piece) ≡ joined l.fn.pooled l.piece;
    }
