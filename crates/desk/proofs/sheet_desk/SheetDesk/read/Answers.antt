use Rattle.std.proofs.Common.{◌≡◌, ◌≢◌, None, Some, Ok, Err, refl, ap, ◌∙◌, rules}
use Rattle.lines.specs.declared.reader.Section.TheVariants.{Book}
use Rattle.stream.specs.declared.reading.Stop.TheVariants.{Refused}
use Rattle.desk.specs.Listings.{writes}
use Rattle.desk.specs.Runs.{with_sheet, early, verdict}
use Rattle.desk.proofs.Leads.{on, stopped, is_over, sheet_line, sheet_early, sheet_end}
use Rattle.desk.proofs.sheet_desk.SheetDesk.read.Goals as goal

pub returns-in_default : goal.returns-in_default
returns-in_default g c =
    let was : c.next_line.result ≡ Ok c.in_ok-line.field-0 = c.in_ok-line.was in
    let hands = rw c.in_default.is at c.in_ok-line.ensures.line in
    let before : c.loop-lines.self.reader.section ≢ Book = search rules in
    record {
      ran = is_over writes with_sheet _ c.loop-lines.invariant (Some (early c.loop-lines.self.reader))
          (sheet_early _ _ c.loop-lines.self.reader before hands (rw was at c.next_line.follows.holds-at-none)) (Err c.into.result)
          (ap (λ stop. verdict (Err stop)) (c.into.ensures ∙ ap Refused c.ended_early.ensures));
    }

pub loop-lines-preserved : goal.loop-lines-preserved
loop-lines-preserved g c =
    let hands = rw c.in-Some.is at c.in_ok-line.ensures.line in
    let was : c.next_line.result ≡ Ok c.in_ok-line.field-0 = c.in_ok-line.was in
    let before : c.loop-lines.self.reader.section ≢ Book = search rules in
    on writes with_sheet (sheet_line c.loop-lines.self.reader before) c.loop-lines.invariant hands (rw was at c.next_line.follows.holds-at-none) c.in_ok-take.ensures.takes

pub returns-in_err-take : goal.returns-in_err-take
returns-in_err-take g c =
    let hands = rw c.in-Some.is at c.in_ok-line.ensures.line in
    let was : c.next_line.result ≡ Ok c.in_ok-line.field-0 = c.in_ok-line.was in
    let before : c.loop-lines.self.reader.section ≢ Book = search rules in
    record {
      ran = stopped writes with_sheet (sheet_line c.loop-lines.self.reader before) _ c.loop-lines.invariant hands (rw was at c.next_line.follows.holds-at-none)
          c.in_err-take.field-0.0 c.in_err-take.ensures.takes _ c.from_residual-in_err-take.ensures.1;
    }

pub returns : goal.returns
returns g c =
    let book : c.loop-lines.self.reader.section ≡ Book = search rules in
    record { ran = is_over writes with_sheet _ c.loop-lines.invariant None (sheet_end _ c.loop-lines.self.reader book) (Ok tt) refl }
