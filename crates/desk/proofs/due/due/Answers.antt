use Rattle.std.proofs.Common.{Option, MatchOption, subst, ◌∙◌}
use Rattle.std.proofs.lemmas.Result.{err_from_is_err_and}
use Rattle.lines.specs.Columns.{Is, Isnt}
use Rattle.lines.specs.Records.{Sound, meant, written}
use Rattle.lines.specs.declared.record.Record.{Record}
use Rattle.desk.specs.Takings.{no_turn}
use Rattle.desk.proofs.due.due.Goals as goal

pub returns-in_err-step : goal.returns-in_err-step
returns-in_err-step c =
    let is = subst (λ (o : Option Record). MatchOption o (Isnt written Sound c.args.line.now) (λ x. Is written Sound c.args.line.now (meant x))) c.in_ok-rec.ensures.ok_part c.read_line.ensures.reads in
    let p = err_from_is_err_and c.from_residual-in_err-step.result c.from_residual-in_err-step.ensures.1 in
    record { due = rw p.1 (no_turn c.in_ok-rec.rec is c.in_err-step.ensures.moves (p.2 ∙ c.in_err-step.ensures.refuses)) }
