-- Each turn makes one call, and writes its answer beside it.
use Rattle.std.proofs.Common.{refl, subst, arith}
use Rattle.book.specs.Events.{Run, none}
use Rattle.book.specs.View.{view}
use Rattle.book.proofs.Replayed.{run_made, drops_on, events_all}
use Rattle.book.proofs.books.Book.call_all.Goals as goal

pub loop-i-init : goal.loop-i-init
loop-i-init g c = record { run = none; rest = refl }

pub loop-i-preserved : goal.loop-i-preserved
loop-i-preserved g c =
    let l = c.loop-i in
    let m = g.C.Charge.meaning c.args.charge.now in
    record {
      run = run_made m c.args.calls.now l.answers l.i _ c.call.result (omega (arith, c.loop-i-test.true)) (omega (arith, c.loop-i-test.true, l.auto)) l.invariant.run c.call.ensures.happens;
      rest = drops_on l.answers c.args.answers.now l.i c.call.result (omega (arith, c.loop-i-test.true, l.auto)) l.invariant.rest;
    }

pub returns-clause-run : goal.returns-clause-run
returns-clause-run g c =
    let l = c.loop-i in
    let m = g.C.Charge.meaning c.args.charge.now in
    let same = events_all m c.args.calls.now l.answers l.i (omega (arith, l.auto, c.loop-i-test.false)) in
    subst (λ es. Run (view c.args.self.now) es (view l.self)) same l.invariant.run
