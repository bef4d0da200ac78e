-- A refused posting asks nothing; on each way out after it the count was put back.
use Rattle.std.proofs.Common.{◌≡◌, None, sym, ◌∙◌, arith, w64}
use Rattle.std.proofs.lemmas.Int.{to_z-of_z}
use Rattle.std.proofs.lemmas.Bool.Decides.{nat_tests}
use Rattle.std.proofs.lemmas.Result.{err_from_is_err_and}
use Rattle.book.specs.Uses.{Posting, fault_of}
use Rattle.book.specs.View.{view}
use Rattle.book.proofs.Posted.{passed, count_there, done_posting}
use Rattle.book.proofs.Tried.{put_back, refused_trial, asked_trial}
use Rattle.book.proofs.books.Book.trial.Goals as goal

pub returns-then-old-spot-gt-CEILING : goal.returns-then-old-spot-gt-CEILING
returns-then-old-spot-gt-CEILING g c =
    let h = rw (to_z-of_z w64 c.args.contracts c.ranges.contracts) at c.in_ok-spot.ensures in
    let s = view c.args.self.now in
    let here = count_there s c.args.name.now c.args.key c.args.contracts c.in_ok-spot.spot h.spot c.args.leg in
    record { trial = refused_trial _ s _ _ _ (passed h.fault (grind (arith, nat_tests))) }

pub returns-in_err-ask : goal.returns-in_err-ask
returns-in_err-ask g c =
    let h = rw (to_z-of_z w64 c.args.contracts c.ranges.contracts) at c.in_ok-spot.ensures in
    let s = view c.args.self.now in
    let spot = c.in_ok-spot.spot in
    let here = count_there s c.args.name.now c.args.key c.args.contracts spot h.spot c.args.leg in
    let fits : None ≡ fault_of s (Posting c.args.name.now c.args.key c.args.leg c.args.contracts) = passed h.fault (grind (arith, nat_tests)) in
    let p = err_from_is_err_and c.from_residual-in_err-ask.result c.from_residual-in_err-ask.ensures.1 in
    record {
      trial = asked_trial _ s _ _ (view c.add_at.new.self) (view c.drop-guard.new.self.0) _ c.ask.new.self fits
          (c.add_at.ensures.after ∙ sym (done_posting s c.args.name.now c.args.key c.args.contracts spot h.spot c.args.leg))
          (rw (p.1, p.2) c.in_err-ask.ensures.fault)
          c.in_err-ask.ensures.held
          (put_back s (view c.add_at.new.self) (view c.drop-guard.new.self.0) spot c.args.leg _ _ c.add_at.ensures.after c.place-place.ensures.value c.count_at-old.ensures.value c.drop-guard.ensures.after);
    }

pub returns : goal.returns
returns g c =
    let h = rw (to_z-of_z w64 c.args.contracts c.ranges.contracts) at c.in_ok-spot.ensures in
    let s = view c.args.self.now in
    let spot = c.in_ok-spot.spot in
    let here = count_there s c.args.name.now c.args.key c.args.contracts spot h.spot c.args.leg in
    let fits : None ≡ fault_of s (Posting c.args.name.now c.args.key c.args.leg c.args.contracts) = passed h.fault (grind (arith, nat_tests)) in
    record {
      trial = asked_trial _ s _ _ (view c.add_at.new.self) (view c.drop-guard-2.new.self.0) _ c.ask.new.self fits
          (c.add_at.ensures.after ∙ sym (done_posting s c.args.name.now c.args.key c.args.contracts spot h.spot c.args.leg))
          c.in_ok-ask.ensures.fault
          c.in_ok-ask.ensures.held
          (put_back s (view c.add_at.new.self) (view c.drop-guard-2.new.self.0) spot c.args.leg _ _ c.add_at.ensures.after c.place-place.ensures.value c.count_at-old.ensures.value c.drop-guard-2.ensures.after);
    }
