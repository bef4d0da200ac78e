-- Each way out meets the row of faults that decides there.
use Rattle.std.proofs.Common.{◌≡◌, sym, refl, ap, ◌∙◌, arith, w64}
use Rattle.std.proofs.lemmas.Int.{to_z-of_z}
use Rattle.std.proofs.lemmas.Bool.Decides.{nat_tests}
use Rattle.std.proofs.lemmas.Result.{err_from_is_err_and}
use Rattle.book.specs.Found.{more}
use Rattle.book.specs.State.{State}
use Rattle.book.specs.View.{view}
use Rattle.book.proofs.Posted.{passed, count_there, done_moving, space_left}
use Rattle.book.proofs.books.Book.move_contracts.Goals as goal

pub returns-in_err-pair : goal.returns-in_err-pair
returns-in_err-pair c =
    let h = rw (to_z-of_z w64 c.args.contracts c.ranges.contracts) at c.in_err-pair.ensures in
    let p = err_from_is_err_and c.from_residual.result c.from_residual.ensures.1 in
    record { step = record { fault = rw (p.1, p.2, ← h.fault) refl; state = rw p.1 } }

pub returns-then-count_at-pair : goal.returns-then-count_at-pair
returns-then-count_at-pair c =
    let h = rw (to_z-of_z w64 c.args.contracts c.ranges.contracts) at c.in_ok-pair.ensures in
    let s = view c.args.self.now in
    let had = count_there s c.args.from.now c.args.key c.args.contracts c.in_ok-pair.pair.from h.source c.args.leg in
    record { step = record { fault = passed h.fault (grind (arith, nat_tests)); state = refl } }

pub returns-then-count_at-pair-gt-CEILING : goal.returns-then-count_at-pair-gt-CEILING
returns-then-count_at-pair-gt-CEILING c =
    let h = rw (to_z-of_z w64 c.args.contracts c.ranges.contracts) at c.in_ok-pair.ensures in
    let s = view c.args.self.now in
    let had = count_there s c.args.from.now c.args.key c.args.contracts c.in_ok-pair.pair.from h.source c.args.leg in
    let has = count_there s c.args.to.now c.args.key c.args.contracts c.in_ok-pair.pair.to h.target c.args.leg in
    record { step = record { fault = passed h.fault (grind (arith, nat_tests)); state = refl } }

pub add_at-requires-clause-space : goal.add_at-requires-clause-space
add_at-requires-clause-space c =
    let p = c.in_ok-pair.pair in
    let s = view c.args.self.now in
    let same : p.to.contracts ≡ p.from.contracts = c.in_ok-pair.ensures.target.amount ∙ sym c.in_ok-pair.ensures.source.amount in
    space_left s (view c.take_at.new.self) p.from p.to c.args.leg c.take_at.ensures.after same (omega (arith, c.count_at.ensures.value)) (omega (arith, c.count_at.ensures.value)) (omega (arith, c.count_at-2.ensures.value))

pub returns : goal.returns
returns c =
    let h = rw (to_z-of_z w64 c.args.contracts c.ranges.contracts) at c.in_ok-pair.ensures in
    let s = view c.args.self.now in
    let p = c.in_ok-pair.pair in
    let had = count_there s c.args.from.now c.args.key c.args.contracts p.from h.source c.args.leg in
    let has = count_there s c.args.to.now c.args.key c.args.contracts p.to h.target c.args.leg in
    record {
      step = record {
        fault = passed h.fault (grind (arith, nat_tests));
        state = c.add_at.ensures.after ∙ ap (λ (x : State). more x p.to c.args.leg) c.take_at.ensures.after
            ∙ sym (done_moving s c.args.from.now c.args.to.now c.args.key c.args.leg c.args.contracts p.from p.to h.source h.target);
      };
    }
