use Rattle.std.proofs.Common.{length, ◌≤◌, sym, arith}
use Rattle.book.specs.Pool.{pool_in, pooled}
use Rattle.book.specs.View.{view}
use Rattle.book.proofs.Filled.{all_filled, pools_limited}
use Rattle.book.proofs.books.Book.class_pools.Goals as goal

pub returns-clause-limited : goal.returns-clause-limited
returns-clause-limited g c =
    let s = view c.args.self.now in
    let m = g.C.Charge.meaning c.args.charge.now in
    let rows = pooled s c.args.side in
    let l = c.loop-i in
    let past : length s.classes ≤ l.i = omega (arith, c.loop-i-test.false, l.invariant.long, l.auto.per_class, c.requires) in
    pools_limited m s rows s.classes l.per_class (sym (all_filled (pool_in m s rows) s.classes l.i l.per_class l.invariant.ahead past (omega (arith, past, l.invariant.long))))
