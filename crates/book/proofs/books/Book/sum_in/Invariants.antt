use Rattle.std.proofs.Common.{◌≡◌, ◌*◌, ◌≤◌, drop, ◌+ℤ◌, nat_abs}
use Rattle.account.specs.Sums.{sum_of}
use Rattle.book.specs.View.{view}
use Rattle.book.proofs.Filled.{figures}
use Rattle.book.proofs.books.Book.sum_in.Given as goal

abbrev pub invariant-loop-i : goal.invariant-loop-i
invariant-loop-i l =
    let classes = (view l.self).classes in
    record {
      bound : nat_abs l.sum ≤ l.i * 200000000000;
      ahead : l.sum +ℤ sum_of l.wanted (drop l.i classes) (figures (drop l.i l.per_class)) ≡ sum_of l.wanted classes (figures l.per_class);
    }
