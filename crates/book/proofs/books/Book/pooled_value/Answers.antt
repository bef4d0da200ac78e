use Rattle.std.proofs.Common.{Err, Ok, [], sym, ap, ◌∙◌, arith, w64, SFits, rules}
use Rattle.std.proofs.lemmas.List.{length-set}
use Rattle.std.proofs.lemmas.Int.{to_z-of_z}
use Rattle.std.proofs.lemmas.Result.{err_from_is_err_and}
use Rattle.terms.specs.declared.names.Name.{Name}
use Rattle.terms.specs.declared.words.Currency.TheVariants.{Hkd}
use Rattle.sheet.specs.declared.rates.Rates.{Rates}
use Rattle.account.specs.Outcomes.{and_then}
use Rattle.account.specs.Sums.{currencies, value_of}
use Rattle.account.proofs.Totals.{numbered}
use Rattle.account.proofs.Reports.{limits_on}
use Rattle.book.specs.Pool.{pool_sum}
use Rattle.book.specs.View.{view}
use Rattle.book.proofs.Filled.{figures, all_refused, all_further, all_filled, sums_accepted}
use Rattle.book.proofs.books.Book.pooled_value.Goals as goal

pub returns-in_err-sums : goal.returns-in_err-sums
returns-in_err-sums c =
    let s = view c.args.self.now in
    let l = c.loop-currency in
    let p = err_from_is_err_and c.from_residual.result c.from_residual.ensures.1 in
    let stop = all_refused (pool_sum s.classes (figures c.args.per_class.now)) currencies l.currency-index l.sums l.invariant.ahead Hkd _ c.loop-currency-test.true c.in_err-sums.ensures.answer in
    record { answer = p.1 ∙ ap Err p.2 ∙ ap (λ r. and_then r (λ sums. Ok (value_of sums s.rates))) stop }

pub loop-currency-preserved : goal.loop-currency-preserved
loop-currency-preserved c =
    let l = c.loop-currency in
    let z = c.in_ok-sums.field-0 in
    let f : SFits w64 c.in_ok-sums.field-0 = search rules in
    let place = c.number.ensures.value ∙ numbered l.currency-index Hkd (omega arith) in
    rw (to_z-of_z w64 z f, place) (record {
      five = length-set l.sums l.currency-index z ∙ l.invariant.five;
      ahead = all_further _ currencies l.currency-index l.sums l.invariant.ahead Hkd z c.loop-currency-test.true (omega (arith, l.invariant.five)) c.in_ok-sums.ensures.answer;
    })

pub invariant_of-value : goal.invariant_of-value
invariant_of-value c =
    let self = c.args.self.now in
    let classes = (view self).classes in
    let zs = figures c.args.per_class.now in
    let l = c.loop-currency in
    let name : Name = record { text = [] } in
    let all = all_filled (pool_sum classes zs) currencies l.currency-index l.sums l.invariant.ahead c.loop-currency-test.false (omega (arith, l.invariant.five)) in
    record { limits = limits_on self.sheet name zs l.sums c.factors-rates.result (c.factors-rates.ensures.value ∙ ap (λ (r : Rates). r.by_number) c.rates.ensures.value) (sym (sums_accepted name classes zs currencies l.sums (sym all))) }
