use Rattle.std.proofs.Common.{◌≡◌, ◌*◌, ◌≤◌, length, nat_abs}
use Rattle.sheet.specs.Given.{class_at, given}
use Rattle.sheet.specs.Limits.{Within}
use Rattle.account.specs.Outcomes.{plus}
use Rattle.account.specs.Pools.{empty_position, joined_from, joins}
use Rattle.book.specs.Pool.{pieces_in, pooled}
use Rattle.book.specs.View.{view}
use Rattle.book.proofs.Taken.{from}
use Rattle.book.proofs.books.Book.joined_in.Given as goal

abbrev pub invariant-loop-k : goal.invariant-loop-k
invariant-loop-k g l =
    let s = view l.self in
    let row = class_at s.classes l.i in
    let t = given row s.series in
    let rest = pieces_in s row (from s l.side l.k) in
    let all = pieces_in s row (pooled s l.side) in
    record {
      long : length l.position ≡ length t.rows;
      small : Within (l.k * 100000) l.position;
      bound : nat_abs l.allowances ≤ l.k * 12800000000000;
      ahead : plus l.allowances (joins (g.C.Charge.meaning l.charge) t l.position rest) ≡ joins (g.C.Charge.meaning l.charge) t (empty_position t) all;
      after : joined_from l.position rest ≡ joined_from (empty_position t) all;
    }
