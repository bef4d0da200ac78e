use Rattle.std.proofs.Common.{refl}
use Rattle.std.proofs.lemmas.Result.{err_from_is_err_and}
use Rattle.sheet.specs.View.{view}
use Rattle.sheet.proofs.Steps.{line_stopped, line_left}
use Rattle.sheet.proofs.drafts.DraftSheet.judge_series.Goals as goal

pub returns-in_err-judge_key : goal.returns-in_err-judge_key
returns-in_err-judge_key c =
    let p = err_from_is_err_and c.from_residual-in_err-judge_key.result c.from_residual-in_err-judge_key.ensures.1 in
    record { value = rw (p.1, p.2) (line_stopped (view c.args.self.now) c.args.listing _ c.in_ok-row.row c.in_ok-row.ensures.value _ c.in_err-judge_key.ensures.value) }

pub returns-then-not-has_room : goal.returns-then-not-has_room
returns-then-not-has_room c = record { value = line_left (view c.args.self.now) c.args.listing _ c.in_ok-row.row c.in_ok-row.ensures.value _ c.in_ok-judge_key.ensures.value (rw (← c.if-not-has_room.ensures.value, c.new.ensures.value) refl) }

pub returns : goal.returns
returns c = record { value = line_left (view c.args.self.now) c.args.listing _ c.in_ok-row.row c.in_ok-row.ensures.value _ c.in_ok-judge_key.ensures.value (rw (← c.if-not-has_room.ensures.value) refl) }
