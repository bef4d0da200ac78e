use Rattle.std.proofs.Common.{◌≡◌, None, Ok, refl, rules}
use Rattle.desk.specs.Dealings.{deals}
use Rattle.desk.specs.Runs.{with_input}
use Rattle.desk.proofs.Leads.{on, stopped, failed, is_over, has_line, at_end}
use Rattle.desk.proofs.book_desk.BookDesk.read.Goals as goal

pub returns-in_err-line : goal.returns-in_err-line
returns-in_err-line g c = record { ran = failed deals with_input _ _ _ _ _ _ _ c.in_err-line.field-0.0 c.from_residual.ensures.1 c.in_err-line.ensures.failed }

pub loop-line-preserved : goal.loop-line-preserved
loop-line-preserved g c =
    let hands = rw c.in-Some.is at c.in_ok-line.ensures.line in
    let was : c.next_line.result ≡ Ok c.in_ok-line.field-0 = c.in_ok-line.was in
    on deals with_input (has_line c.loop-line.self.reader) c.loop-line.invariant hands (rw was at c.next_line.follows.holds-at-none) c.in_ok-take.ensures.takes

pub returns-in_err-take : goal.returns-in_err-take
returns-in_err-take g c =
    let hands = rw c.in-Some.is at c.in_ok-line.ensures.line in
    let was : c.next_line.result ≡ Ok c.in_ok-line.field-0 = c.in_ok-line.was in
    record {
      ran = stopped deals with_input (has_line c.loop-line.self.reader) _ c.loop-line.invariant hands (rw was at c.next_line.follows.holds-at-none)
          c.in_err-take.field-0.0 c.in_err-take.ensures.takes _ c.from_residual-in_err-take.ensures.1;
    }

pub returns : goal.returns
returns g c =
    let was : c.next_line.result ≡ Ok c.in_ok-line.field-0 = c.in_ok-line.was in
    let none : c.in_ok-line.field-0 ≡ None = search rules in
    let hands = rw none at c.in_ok-line.ensures.line in
    record { ran = is_over deals with_input _ c.loop-line.invariant None (at_end _ _ c.loop-line.self.reader hands (rw was at c.next_line.follows.holds-at-none)) (Ok tt) refl }
