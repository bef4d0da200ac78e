use Rattle.std.proofs.Common.{◌≡◌, length, take, drop}
use Rattle.book.specs.Pool.{all_of, pool_in, pooled}
use Rattle.book.specs.View.{view}
use Rattle.book.proofs.Filled.{behind}
use Rattle.book.proofs.books.Book.class_pools.Given as goal

abbrev pub invariant-loop-i : goal.invariant-loop-i
invariant-loop-i g l =
    let s = view l.self in
    let one = pool_in (g.C.Charge.meaning l.charge) s (pooled s l.side) in
    record {
      long : length l.per_class ≡ length s.classes;
      ahead : behind (take l.i l.per_class) (all_of one (drop l.i s.classes)) ≡ all_of one s.classes;
    }
