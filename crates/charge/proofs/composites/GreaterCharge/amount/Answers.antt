use Rattle.std.proofs.Common.{ap, ◌∙◌, arith}
use Rattle.std.proofs.lemmas.Int.{ints}
use Rattle.terms.specs.declared.words.Label.TheVariants.{Greater as Own}
use Rattle.sheet.specs.Plain.{plain}
use Rattle.charge.specs.Answers.{limited}
use Rattle.charge.proofs.Parts.{figure, figure_casts, first_refuses, second_refuses, both_answer}
use Rattle.charge.proofs.composites.GreaterCharge.amount.Goals as goal

pub returns-in_err-left : goal.returns-in_err-left
returns-in_err-left g c =
    let n = (g.B.Charge.meaning c.args.self.now.1).charged (plain c.args.class.now) c.args.position.now in
    record { answer = first_refuses _ _ n _ _ _ _ _ _ _ (omega arith) c.from_residual.ensures.1 c.in_err-left.ensures.answer }

pub overflow_cast-left : goal.overflow_cast-left
overflow_cast-left g c = figure_casts _ _ _ _ _ c.in_ok-left.ensures.answer

pub returns-in_err-right : goal.returns-in_err-right
returns-in_err-right g c = record { answer = second_refuses _ _ _ _ _ _ _ _ _ _ _ _ (omega arith) c.from_residual-in_err-right.ensures.1 c.in_ok-left.ensures.answer c.in_err-right.ensures.answer }

pub overflow_cast-right : goal.overflow_cast-right
overflow_cast-right g c = figure_casts _ _ _ _ _ c.in_ok-right.ensures.answer

pub returns : goal.returns
returns g c =
    let first = figure _ _ _ _ _ c.in_ok-left.ensures.answer in
    let second = figure _ _ _ _ _ c.in_ok-right.ensures.answer in
    record { answer = both_answer _ _ _ _ _ _ _ _ _ _ _ _ (omega arith) (omega arith) c.in_ok-left.ensures.answer c.in_ok-right.ensures.answer (c.limited.ensures.answer ∙ ap (λ k. limited k Own) (omega (arith, ints))) }
