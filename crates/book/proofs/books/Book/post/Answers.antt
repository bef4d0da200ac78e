-- Each way out meets the row of faults that decides there.
use Rattle.std.proofs.Common.{sym, refl, ◌∙◌, arith, w64}
use Rattle.std.proofs.lemmas.Int.{to_z-of_z}
use Rattle.std.proofs.lemmas.Bool.Decides.{nat_tests}
use Rattle.std.proofs.lemmas.Result.{err_from_is_err_and}
use Rattle.book.specs.View.{view}
use Rattle.book.proofs.Posted.{passed, count_there, done_posting}
use Rattle.book.proofs.books.Book.post.Goals as goal

pub returns-in_err-spot : goal.returns-in_err-spot
returns-in_err-spot c =
    let h = rw (to_z-of_z w64 c.args.contracts c.ranges.contracts) at c.in_err-spot.ensures in
    let p = err_from_is_err_and c.from_residual.result c.from_residual.ensures.1 in
    record { step = record { fault = rw (p.1, p.2, ← h.fault) refl; state = rw p.1 } }

pub returns-then-count_at-spot-gt-CEILING : goal.returns-then-count_at-spot-gt-CEILING
returns-then-count_at-spot-gt-CEILING c =
    let h = rw (to_z-of_z w64 c.args.contracts c.ranges.contracts) at c.in_ok-spot.ensures in
    let here = count_there (view c.args.self.now) c.args.name.now c.args.key c.args.contracts c.in_ok-spot.spot h.spot c.args.leg in
    record { step = record { fault = passed h.fault (grind (arith, nat_tests)); state = refl } }

pub returns : goal.returns
returns c =
    let h = rw (to_z-of_z w64 c.args.contracts c.ranges.contracts) at c.in_ok-spot.ensures in
    let s = view c.args.self.now in
    let here = count_there s c.args.name.now c.args.key c.args.contracts c.in_ok-spot.spot h.spot c.args.leg in
    record {
      step = record {
        fault = passed h.fault (grind (arith, nat_tests));
        state = c.add_at.ensures.after ∙ sym (done_posting s c.args.name.now c.args.key c.args.contracts c.in_ok-spot.spot h.spot c.args.leg);
      };
    }
