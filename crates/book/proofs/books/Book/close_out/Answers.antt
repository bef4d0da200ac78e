-- Each way out meets the row of faults that decides there.
use Rattle.std.proofs.Common.{sym, refl, ap, ◌∙◌, arith, w64}
use Rattle.std.proofs.lemmas.Int.{to_z-of_z}
use Rattle.std.proofs.lemmas.Bool.Decides.{nat_tests}
use Rattle.std.proofs.lemmas.Result.{err_from_is_err_and}
use Rattle.terms.specs.declared.words.Leg.TheVariants.{Long, Short}
use Rattle.book.specs.Found.{less}
use Rattle.book.specs.View.{view}
use Rattle.book.proofs.Posted.{passed, count_there, done_closing}
use Rattle.book.proofs.books.Book.close_out.Goals as goal

pub returns-in_err-spot : goal.returns-in_err-spot
returns-in_err-spot c =
    let h = rw (to_z-of_z w64 c.args.contracts c.ranges.contracts) at c.in_err-spot.ensures in
    let p = err_from_is_err_and c.from_residual.result c.from_residual.ensures.1 in
    record { step = record { fault = rw (p.1, p.2, ← h.fault) refl; state = rw p.1 } }

pub returns-then-min-spot : goal.returns-then-min-spot
returns-then-min-spot c =
    let h = rw (to_z-of_z w64 c.args.contracts c.ranges.contracts) at c.in_ok-spot.ensures in
    let here = count_there (view c.args.self.now) c.args.name.now c.args.key c.args.contracts c.in_ok-spot.spot h.spot in
    let longs = here Long in
    let shorts = here Short in
    record { step = record { fault = passed h.fault (grind (arith, nat_tests)); state = refl } }

pub returns : goal.returns
returns c =
    let h = rw (to_z-of_z w64 c.args.contracts c.ranges.contracts) at c.in_ok-spot.ensures in
    let s = view c.args.self.now in
    let p = c.in_ok-spot.spot in
    let here = count_there s c.args.name.now c.args.key c.args.contracts p h.spot in
    let longs = here Long in
    let shorts = here Short in
    record {
      step = record {
        fault = passed h.fault (grind (arith, nat_tests));
        state = c.take_at-2.ensures.after ∙ ap (λ x. less x p Short) c.take_at.ensures.after ∙ sym (done_closing s c.args.name.now c.args.key c.args.contracts p h.spot);
      };
    }
