use Rattle.std.proofs.Common.{◌≡◌, ◌<◌, true, false, length, get_or, pos, sym, ap, ◌∙◌, ⊎_elim, arith}
use borrow.Author.Differences.{ints}
use Rattle.std.proofs.lemmas.Bool.{cases_Bool, eq-eqb, eqb-true}
use Rattle.terms.specs.Words.{currency_number}
use Rattle.sheet.specs.declared.rows.ClassRow.{ClassRow}
use Rattle.sheet.specs.Given.{class_at}
use Rattle.account.specs.declared.pools.ClassPool.{ClassPool}
use Rattle.account.specs.Sums.{same_currency}
use Rattle.account.proofs.Kit.{sum_back, abs_add}
use Rattle.book.specs.View.{view}
use Rattle.book.proofs.Filled.{sum_more}
use Rattle.book.proofs.books.Book.sum_in.Goals as goal
use Rattle.book.proofs.books.Book.sum_in.Goals.{then-number, else-number}

pub loop-i-preserved : goal.loop-i-preserved
loop-i-preserved c =
    let s = view c.args.self.now in
    let ps = c.args.per_class.now in
    let i = c.loop-i.i in
    let no : ClassPool = record { figure = pos 0; allowance = pos 0 } in
    let few = c.args.self.now.sheet.whole.few_classes in
    let below : i < length s.classes = omega (arith, c.loop-i-test.true, c.requires.each) in
    let one = c.requires.limited i no c.loop-i-test.true in
    let a = c.loop-i.sum in
    let r = (get_or ps i no).figure in
    let e = c.loop-i.sum-is in
    let inv = rw e at c.loop-i.invariant in
    let own = currency_number (class_at s.classes i).currency in
    let number = c.number.ensures.value ∙ ap (λ (k : ClassRow). currency_number k.currency) c.class_row.ensures.value in
    let wanted = c.number-in-loop-i.ensures.value in
    let more = sum_more s.classes ps i no below c.requires.each c.args.wanted in
    elim c.if-number.branch [
      | then-number w ↦
          let same = eq-eqb own (currency_number c.args.wanted) (sym number ∙ w.if-number.true ∙ wanted) in
          let b = sum_back a r (omega (arith, inv.bound, one.0, below, few)) in
          rw (w.sum-is, e, b) (record { bound = omega (arith, abs_add a r, inv.bound, one.0); ahead = omega (arith, ints, inv.ahead, rw same at more) })
      | else-number w ↦
          let other : same_currency (class_at s.classes i).currency c.args.wanted ≡ false = ⊎_elim (λ (t : same_currency (class_at s.classes i).currency c.args.wanted ≡ true). absurd (w.if-number.false (number ∙ eqb-true own (currency_number c.args.wanted) t ∙ sym wanted))) (λ f. f) (cases_Bool (same_currency (class_at s.classes i).currency c.args.wanted)) in
          rw (w.sum-is, e) (record { bound = omega (arith, inv.bound); ahead = omega (arith, ints, inv.ahead, rw other at more) })
    ]
