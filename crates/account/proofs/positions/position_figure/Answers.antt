use Rattle.std.proofs.Common.{Ok, Err, ap, ◌∙◌, arith, w64, SFits, rules}
use Rattle.std.proofs.lemmas.Int.{to_z-of_z}
use Rattle.std.proofs.lemmas.Result.{err_from_is_err_and}
use Rattle.sheet.specs.Plain.{plain}
use Rattle.account.specs.Outcomes.{plus}
use Rattle.account.proofs.Kit.{both_back}
use Rattle.account.proofs.Totals.{within_limit}
use Rattle.account.proofs.Charges.{figure_from}
use Rattle.account.proofs.positions.position_figure.Goals as goal

pub returns-in_err-mark-clause-answer : goal.returns-in_err-mark-clause-answer
returns-in_err-mark-clause-answer g c =
    let position = c.args.position.now in
    let f : SFits w64 c.mark.result = search rules in
    let p = err_from_is_err_and c.from_residual.result c.from_residual.ensures.1 in
    p.1 ∙ ap Err p.2 ∙ figure_from (g.C.Charge.meaning c.args.charge.now) c.args.basis (plain position.class.now) position.counts.now _ _ c.mark.ensures.value (rw (to_z-of_z w64 _ f) at c.in_err-mark.ensures.answer)

pub returns-in_err-amounts-clause-answer : goal.returns-in_err-amounts-clause-answer
returns-in_err-amounts-clause-answer g c =
    let position = c.args.position.now in
    let f : SFits w64 c.mark.result = search rules in
    let p = err_from_is_err_and c.from_residual-in_err-amounts.result c.from_residual-in_err-amounts.ensures.1 in
    p.1 ∙ ap Err p.2 ∙ ap (plus c.in_ok-mark.mark) c.in_err-amounts.ensures.answer
    ∙ figure_from (g.C.Charge.meaning c.args.charge.now) c.args.basis (plain position.class.now) position.counts.now _ _ c.mark.ensures.value (rw (to_z-of_z w64 _ f) at c.in_ok-mark.ensures.answer)

pub returns-clause-answer : goal.returns-clause-answer
returns-clause-answer g c =
    let position = c.args.position.now in
    let y = c.in_ok-mark.mark in
    let f : SFits w64 c.mark.result = search rules in
    let told = rw (to_z-of_z w64 _ f) at c.in_ok-mark.ensures.answer in
    ap Ok (both_back y c.in_ok-amounts.field-0 (omega (arith, c.in_ok-amounts.ensures.bound, within_limit y c.mark.result told)))
    ∙ ap (plus y) c.in_ok-amounts.ensures.answer
    ∙ figure_from (g.C.Charge.meaning c.args.charge.now) c.args.basis (plain position.class.now) position.counts.now c.mark.result _ c.mark.ensures.value told
