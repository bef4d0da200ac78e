use Rattle.std.proofs.Common.{Err, ap, ◌∙◌, arith, w64, SFits, rules}
use Rattle.std.proofs.lemmas.List.{length-set}
use Rattle.std.proofs.lemmas.Int.{to_z-of_z}
use Rattle.std.proofs.lemmas.Result.{err_from_is_err_and}
use Rattle.terms.specs.declared.words.Currency.TheVariants.{Hkd}
use Rattle.account.specs.Sums.{currencies}
use Rattle.account.proofs.Outcomes.{each_refused, each_further, each_filled}
use Rattle.account.proofs.Totals.{numbered}
use Rattle.account.proofs.Reports.{limits_on}
use Rattle.account.proofs.sums.ClassFigures.currency_sums.Goals as goal

pub returns-in_err-sums-clause-answer : goal.returns-in_err-sums-clause-answer
returns-in_err-sums-clause-answer c =
    let l = c.loop-currency in
    let p = err_from_is_err_and c.from_residual.result c.from_residual.ensures.1 in
    rw p.1 (ap Err p.2 ∙ each_refused _ currencies l.currency-index l.sums l.invariant.ahead Hkd _ c.loop-currency-test.true c.in_err-sums.ensures.answer)

pub loop-currency-preserved : goal.loop-currency-preserved
loop-currency-preserved c =
    let l = c.loop-currency in
    let z = c.in_ok-sums.field-0 in
    let f : SFits w64 c.in_ok-sums.field-0 = search rules in
    let place = c.number.ensures.value ∙ numbered l.currency-index Hkd (omega arith) in
    rw (to_z-of_z w64 z f, place) (record {
      five = length-set l.sums l.currency-index z ∙ l.invariant.five;
      ahead = each_further _ currencies l.currency-index l.sums l.invariant.ahead Hkd z c.loop-currency-test.true (omega (arith, l.invariant.five)) c.in_ok-sums.ensures.answer;
    })

pub invariant_of-result : goal.invariant_of-result
invariant_of-result c =
    let self = c.args.self.now in
    let l = c.loop-currency in
    record { limits = limits_on self.account.sheet self.account.name self.figures.now l.sums c.factors-rates.result (c.factors-rates.ensures.value ∙ ap (λ r. r.by_number) c.rates.ensures.value) (each_filled _ currencies l.currency-index l.sums l.invariant.ahead c.loop-currency-test.false (omega (arith, l.invariant.five))) }
