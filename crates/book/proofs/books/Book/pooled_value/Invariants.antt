use Rattle.std.proofs.Common.{◌≡◌, length, take, drop}
use Rattle.account.specs.Sums.{currencies}
use Rattle.book.specs.Pool.{all_of, pool_sum}
use Rattle.book.specs.View.{view}
use Rattle.book.proofs.Filled.{behind, figures}
use Rattle.book.proofs.books.Book.pooled_value.Given as goal

abbrev pub invariant-loop-currency : goal.invariant-loop-currency
invariant-loop-currency l =
    let one = pool_sum (view l.self).classes (figures l.per_class) in
    record {
      five : length l.sums ≡ 5;
      ahead : behind (take l.currency-index l.sums) (all_of one (drop l.currency-index currencies)) ≡ all_of one currencies;
    }
