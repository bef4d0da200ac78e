use Rattle.std.proofs.Common.{◌≡◌, ◌<◌, length, get_or, pos, ◌*ℤ◌, ap, ◌∙◌, arith}
use Rattle.std.specs.Prelude.{slice_index}
use borrow.Author.Differences.{ints}
use Rattle.terms.specs.Words.{currency_number}
use Rattle.sheet.specs.declared.rates.Rates.{Rates}
use Rattle.sheet.specs.declared.rows.ClassRow.{ClassRow}
use Rattle.sheet.specs.Given.{class_at}
use Rattle.account.specs.declared.pools.ClassPool.{ClassPool}
use Rattle.account.proofs.Kit.{back, sum_back, abs_add}
use Rattle.book.specs.View.{view}
use Rattle.book.proofs.Filled.{allowances_more}
use Rattle.book.proofs.books.Book.pooled_allowance.Goals as goal

pub loop-i-preserved : goal.loop-i-preserved
loop-i-preserved c =
    let s = view c.args.self.now in
    let ps = c.args.per_class.now in
    let i = c.loop-i.i in
    let no : ClassPool = record { figure = pos 0; allowance = pos 0 } in
    let few = c.args.self.now.sheet.whole.few_classes in
    let below : i < length s.classes = omega (arith, c.loop-i-test.true, c.requires.each) in
    let one = c.requires.limited i no c.loop-i-test.true in
    let a = c.loop-i.total in
    let r = c.allowance_line-total.result in
    let e = c.loop-i.total-is in
    let inv = rw e at c.loop-i.invariant in
    let b = sum_back a r (omega (arith, inv.bound, c.allowance_line-total.ensures.bound, below, few)) in
    let v = rw (back (get_or ps i no).allowance (omega (arith, one.1))) at c.allowance_line-total.ensures.value in
    let rates = c.factors-rates.ensures.value ∙ ap (λ (r : Rates). r.by_number) c.rates.ensures.value in
    let number = c.number.ensures.value ∙ ap (λ (k : ClassRow). currency_number k.currency) c.class_row.ensures.value in
    let line : r ≡ ((get_or ps i no).allowance *ℤ pos (slice_index s.rates (currency_number (class_at s.classes i).currency))) =
    v ∙ ap (λ n. (get_or ps i no).allowance *ℤ pos (slice_index c.factors-rates.result n)) number ∙ ap (λ rs. (get_or ps i no).allowance *ℤ pos (slice_index rs (currency_number (class_at s.classes i).currency))) rates in
    let more = allowances_more s.classes ps i no below c.requires.each s.rates in
    rw (e, b) (record {
      bound = omega (arith, abs_add a r, inv.bound, c.allowance_line-total.ensures.bound);
      ahead = omega (arith, ints, inv.ahead, line, more);
    })
