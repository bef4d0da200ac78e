use Rattle.std.proofs.Common.{◌≡◌, Err, sym}
use Rattle.std.proofs.lemmas.Result.{err_from_is_err_and}
use Rattle.desk.specs.Takings.{numbered}
use Rattle.desk.proofs.book_desk.BookDesk.take.Goals as goal

pub returns-in_err-self-clause-takes : goal.returns-in_err-self-clause-takes
returns-in_err-self-clause-takes c =
    let p = err_from_is_err_and c.from_residual.result c.from_residual.ensures.1 in
    let told : Err c.in_err-self.field-0.0 ≡ numbered c.next_line-number.result c.answer.result = c.in_err-self.ensures in
    record { answer = c.answer.result; answered = c.answer.ensures.answers; told = rw (p.1, p.2, ← c.next_line-number.ensures) (sym told, c.answer.ensures.stays) }

pub returns-clause-takes : goal.returns-clause-takes
returns-clause-takes c = record { answer = c.answer.result; answered = c.answer.ensures.answers; told = rw (← c.next_line-number.ensures) (sym c.in_ok-self.ensures) }
