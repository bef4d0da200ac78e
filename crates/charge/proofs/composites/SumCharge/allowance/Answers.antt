use Rattle.std.proofs.Common.{ap, ◌∙◌, arith}
use Rattle.std.proofs.lemmas.Int.{ints}
use Rattle.terms.specs.declared.words.Label.TheVariants.{Sum as Own}
use Rattle.sheet.specs.Plain.{plain}
use Rattle.charge.specs.Answers.{limited}
use Rattle.charge.proofs.Parts.{figure, figure_casts, first_refuses, second_refuses, both_answer}
use Rattle.charge.proofs.composites.SumCharge.allowance.Goals as goal

pub returns-in_err-first_allowance : goal.returns-in_err-first_allowance
returns-in_err-first_allowance g c =
    let n = (g.B.Charge.meaning c.args.self.now.1).allowed (plain c.args.class.now) c.args.one.now c.args.other.now in
    record { answer = first_refuses _ _ n _ _ _ _ _ _ _ (omega arith) c.from_residual.ensures.1 c.in_err-first_allowance.ensures.answer }

pub overflow_cast-first_allowance : goal.overflow_cast-first_allowance
overflow_cast-first_allowance g c = figure_casts _ _ _ _ _ c.in_ok-first_allowance.ensures.answer

pub returns-in_err-second_allowance : goal.returns-in_err-second_allowance
returns-in_err-second_allowance g c = record { answer = second_refuses _ _ _ _ _ _ _ _ _ _ _ _ (omega arith) c.from_residual-in_err-second_allowance.ensures.1 c.in_ok-first_allowance.ensures.answer c.in_err-second_allowance.ensures.answer }

pub overflow_cast-second_allowance : goal.overflow_cast-second_allowance
overflow_cast-second_allowance g c = figure_casts _ _ _ _ _ c.in_ok-second_allowance.ensures.answer

pub overflow_add-first_allowance : goal.overflow_add-first_allowance
overflow_add-first_allowance g c =
    let first = figure _ _ _ _ _ c.in_ok-first_allowance.ensures.answer in
    let second = figure _ _ _ _ _ c.in_ok-second_allowance.ensures.answer in
    omega (arith, ints)

pub returns : goal.returns
returns g c =
    let first = figure _ _ _ _ _ c.in_ok-first_allowance.ensures.answer in
    let second = figure _ _ _ _ _ c.in_ok-second_allowance.ensures.answer in
    record { answer = both_answer _ _ _ _ _ _ _ _ _ _ _ _ (omega arith) (omega arith) c.in_ok-first_allowance.ensures.answer c.in_ok-second_allowance.ensures.answer (c.limited.ensures.answer ∙ ap (λ k. limited k Own) (omega (arith, ints))) }
