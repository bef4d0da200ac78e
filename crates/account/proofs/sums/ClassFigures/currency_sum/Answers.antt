use Rattle.std.proofs.Common.{ℤ, cond, Ok, Err, ap, ◌∙◌, w64, SFits, rules}
use Rattle.std.proofs.lemmas.Int.{to_z-of_z}
use Rattle.terms.specs.Faults.{with_account, with_currency}
use Rattle.account.specs.Outcomes.{beyond}
use Rattle.account.specs.Sums.{currency_too_large}
use Rattle.account.proofs.Totals.{told_sum}
use Rattle.account.proofs.sums.ClassFigures.currency_sum.Goals as goal

pub returns : goal.returns
returns c =
    let f : SFits w64 c.sum_in.result = search rules in
    let name = c.args.self.now.account.name in
    let told = told_sum _ _ (λ e. with_currency c.args.wanted (with_account name e)) c.sum_in.result c.bounded.result c.map_err.result (rw (to_z-of_z w64 _ f) at c.bounded.ensures.answer) c.map_err.ensures.cases (λ e f h. search rules) in
    record { answer = told ∙ ap (λ (z : ℤ). cond (beyond z) (Err (currency_too_large name c.args.wanted)) (Ok z)) c.sum_in.ensures.value }
