use Rattle.std.proofs.Common.{sym, ◌∙◌}
use Rattle.lines.proofs.Trims.{name_is, name_isnt}
use Rattle.lines.proofs.names.name_of.Goals as goal

pub returns-in_err-ok : goal.returns-in_err-ok
returns-in_err-ok c = rw c.from_residual.ensures (name_isnt c.args.field.now (rw c.blanks_behind.ensures.value at (sym (c.ok.ensures.value ∙ c.try_from.ensures) ∙ c.in_err-ok.was)))

pub returns : goal.returns
returns c = rw c.blanks_behind.ensures.value (name_is c.args.field.now c.in_ok-ok.field-0 c.requires (rw c.blanks_behind.ensures.value at (sym (c.ok.ensures.value ∙ c.try_from.ensures) ∙ c.in_ok-ok.was)))
