use Rattle.std.proofs.Common.{◌≡◌, ◌*◌, ◌≤◌, Ok}
use Rattle.account.specs.Outcomes.{and_then}
use Rattle.book.specs.Pool.{all_of, pooled, summed}
use Rattle.book.specs.Reports.{row_report}
use Rattle.book.specs.View.{view}
use Rattle.book.proofs.Taken.{from, more_summed}
use Rattle.book.proofs.books.Book.summed.Given as goal

abbrev pub invariant-loop-k : goal.invariant-loop-k
invariant-loop-k g l =
    let s = view l.self in
    let reports = all_of (row_report (g.C.Charge.meaning l.charge) s) in
    record {
      bound : l.total ≤ l.k * 100000000000000000;
      ahead : more_summed l.total (reports (from s l.side l.k)) ≡ and_then (reports (pooled s l.side)) (λ rs. Ok (summed rs));
    }
