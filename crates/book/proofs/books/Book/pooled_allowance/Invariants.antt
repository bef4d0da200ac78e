use Rattle.std.proofs.Common.{◌≡◌, ◌*◌, ◌≤◌, drop, ◌+ℤ◌, nat_abs}
use Rattle.book.specs.Pool.{allowances}
use Rattle.book.specs.View.{view}
use Rattle.book.proofs.books.Book.pooled_allowance.Given as goal

abbrev pub invariant-loop-i : goal.invariant-loop-i
invariant-loop-i l =
    let s = view l.self in
    record {
      bound : nat_abs l.total ≤ l.i * 20000000000000000;
      ahead : l.total +ℤ allowances s.rates (drop l.i s.classes) (drop l.i l.per_class) ≡ allowances s.rates s.classes l.per_class;
    }
