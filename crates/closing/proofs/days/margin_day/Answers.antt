use Rattle.std.proofs.Common.{◌≡◌, Ok, Err, map, ap, ◌∙◌}
use Rattle.charge.specs.Meanings.{prime_meaning}
use Rattle.desk.specs.Desks.{dealing, writing}
use Rattle.collateral.specs.Requirements.{owes}
use Rattle.desk.specs.Reports.{statements}
use Rattle.closing.proofs.Closings.{handed, sheet_refused, book_refused, is_closed, close_refused, refused_is, answered_is}
use Rattle.closing.proofs.Heads.{fault_of_line}
use Rattle.closing.proofs.Outcomes.{one_outcome}
use Rattle.closing.proofs.days.margin_day.Goals as goal

pub returns-in_err-read : goal.returns-in_err-read
returns-in_err-read g c =
    let ran = rw (c.new-lines.ensures, c.new-desk.ensures.reader, c.new-desk.ensures.value, c.new-draft.ensures.value) at c.in_err-read.ensures.ran in
    record { margined = handed _ c.from_residual.result c.in_err-read.field-0.0 c.from_residual.ensures.1 (sheet_refused _ _ _ _ _ ran); one_outcome = one_outcome; fault_of_line = fault_of_line }

pub returns-in_err-read-2 : goal.returns-in_err-read-2
returns-in_err-read-2 g c =
    let sheet = rw (c.new-lines.ensures, c.new-desk.ensures.reader, c.new-desk.ensures.value, c.new-draft.ensures.value) at c.in_ok-read.ensures.ran in
    let seals = c.seal-sheet.ensures.seals in
    let book = rw (c.new.ensures.value, c.new-2.ensures.rates, c.new-2.ensures.records, seals.rates, seals.classes, seals.series) at c.in_err-read-2.ensures.ran in
    record { margined = handed _ c.from_residual-in_err-read-2.result c.in_err-read-2.field-0.0 c.from_residual-in_err-read-2.ensures.1 (book_refused _ _ _ _ _ _ _ _ sheet book); one_outcome = one_outcome; fault_of_line = fault_of_line }

pub returns-in_err-draw_up : goal.returns-in_err-draw_up
returns-in_err-draw_up g c =
    let sheet = rw (c.new-lines.ensures, c.new-desk.ensures.reader, c.new-desk.ensures.value, c.new-draft.ensures.value) at c.in_ok-read.ensures.ran in
    let seals = c.seal-sheet.ensures.seals in
    let book = rw (c.new.ensures.value, c.new-2.ensures.rates, c.new-2.ensures.records, seals.rates, seals.classes, seals.series) at c.in_ok-read-2.ensures.ran in
    let w = writing c.read.new.self in
    let d = dealing c.read-2.new.self in
    let refuses : Err c.in_err-draw_up.field-0.0 ≡ statements prime_meaning d.book = c.in_err-draw_up.ensures.answer in
    record {
      margined = close_refused _ c.from_residual-in_err-draw_up.result c.in_err-draw_up.field-0.0 c.from_residual-in_err-draw_up.ensures.1
          (is_closed _ _ _ _ _ w d (Err c.in_err-draw_up.field-0.0) sheet book (refused_is w d c.in_err-draw_up.field-0.0 refuses));
      one_outcome = one_outcome;
      fault_of_line = fault_of_line;
    }

pub returns : goal.returns
returns g c =
    let sheet = rw (c.new-lines.ensures, c.new-desk.ensures.reader, c.new-desk.ensures.value, c.new-draft.ensures.value) at c.in_ok-read.ensures.ran in
    let seals = c.seal-sheet.ensures.seals in
    let book = rw (c.new.ensures.value, c.new-2.ensures.rates, c.new-2.ensures.records, seals.rates, seals.classes, seals.series) at c.in_ok-read-2.ensures.ran in
    let w = writing c.read.new.self in
    let d = dealing c.read-2.new.self in
    let xs = map owes c.in_ok-draw_up.field-0 in
    let answers : Ok xs ≡ statements prime_meaning d.book = c.in_ok-draw_up.ensures.answer in
    let rates = ap (λ r. r.by_number) c.rates.ensures.value ∙ seals.rates in
    record { margined = is_closed _ _ _ _ _ w d _ sheet book (answered_is w d c.rates.result.by_number xs rates answers); one_outcome = one_outcome; fault_of_line = fault_of_line }
