use Rattle.std.proofs.Common.{Err, ap, ◌∙◌, refl}
use Rattle.std.proofs.lemmas.Result.{err_from_is_err_and}
use Rattle.desk.specs.Takings.{not_due, faulty, taken}
use Rattle.desk.proofs.sheet_desk.SheetDesk.answer.Goals as goal

pub returns-in_err-rec-clause-answers : goal.returns-in_err-rec-clause-answers
returns-in_err-rec-clause-answers c =
    let p = err_from_is_err_and c.from_residual.result c.from_residual.ensures.1 in
    not_due _ c.in_err-rec.ensures.due (p.1 ∙ ap Err p.2) refl

pub returns-in_err-write-clause-answers : goal.returns-in_err-write-clause-answers
returns-in_err-write-clause-answers c =
    let p = err_from_is_err_and c.from_residual-in_err-write.result c.from_residual-in_err-write.ensures.1 in
    faulty c.in_ok-rec.rec c.in_ok-rec.next _ c.in_ok-rec.ensures.due c.in_err-write.ensures.written (p.1 ∙ ap Err p.2)

pub returns-clause-answers : goal.returns-clause-answers
returns-clause-answers c = taken c.in_ok-rec.rec c.in_ok-rec.next c.in_ok-rec.ensures.due c.in_ok-write.ensures.written refl
