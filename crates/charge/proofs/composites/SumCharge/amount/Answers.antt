use Rattle.std.proofs.Common.{ap, ◌∙◌, arith}
use Rattle.std.proofs.lemmas.Int.{ints}
use Rattle.terms.specs.declared.words.Label.TheVariants.{Sum as Own}
use Rattle.sheet.specs.Plain.{plain}
use Rattle.charge.specs.Answers.{limited}
use Rattle.charge.proofs.Parts.{figure, figure_casts, first_refuses, second_refuses, both_answer}
use Rattle.charge.proofs.composites.SumCharge.amount.Goals as goal

pub returns-in_err-first : goal.returns-in_err-first
returns-in_err-first g c =
    let n = (g.B.Charge.meaning c.args.self.now.1).charged (plain c.args.class.now) c.args.position.now in
    record { answer = first_refuses _ _ n _ _ _ _ _ _ _ (omega arith) c.from_residual.ensures.1 c.in_err-first.ensures.answer }

pub overflow_cast-first : goal.overflow_cast-first
overflow_cast-first g c = figure_casts _ _ _ _ _ c.in_ok-first.ensures.answer

pub returns-in_err-second : goal.returns-in_err-second
returns-in_err-second g c = record { answer = second_refuses _ _ _ _ _ _ _ _ _ _ _ _ (omega arith) c.from_residual-in_err-second.ensures.1 c.in_ok-first.ensures.answer c.in_err-second.ensures.answer }

pub overflow_cast-second : goal.overflow_cast-second
overflow_cast-second g c = figure_casts _ _ _ _ _ c.in_ok-second.ensures.answer

pub overflow_add-first : goal.overflow_add-first
overflow_add-first g c =
    let first = figure _ _ _ _ _ c.in_ok-first.ensures.answer in
    let second = figure _ _ _ _ _ c.in_ok-second.ensures.answer in
    omega (arith, ints)

pub returns : goal.returns
returns g c =
    let first = figure _ _ _ _ _ c.in_ok-first.ensures.answer in
    let second = figure _ _ _ _ _ c.in_ok-second.ensures.answer in
    record { answer = both_answer _ _ _ _ _ _ _ _ _ _ _ _ (omega arith) (omega arith) c.in_ok-first.ensures.answer c.in_ok-second.ensures.answer (c.limited.ensures.answer ∙ ap (λ k. limited k Own) (omega (arith, ints))) }
