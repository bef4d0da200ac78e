use Rattle.std.proofs.Common.{◌≡◌, true, false, Some, arith, is_some, rules, sym, ap, ◌∙◌}
use Rattle.std.proofs.lemmas.Int.{to_z-of_z}
use Rattle.std.proofs.lemmas.Bool.Decides.{nat_tests}
use Rattle.terms.specs.Codes.{lettered}
use Rattle.register.specs.Held.{held, lent}
use Rattle.register.specs.Rows.{sought}
use Rattle.sheet.specs.Limits.{class_of, quoted}
use Rattle.sheet.specs.Rows.{class_rank}
use Rattle.sheet.specs.View.{view}
use Rattle.sheet.proofs.Made.{class_row_fits}
use Rattle.sheet.proofs.Whole.{whole_with_class}
use Rattle.sheet.proofs.Steps.{told_as, class_twice, class_unquoted, class_entered}
use Rattle.sheet.proofs.drafts.DraftSheet.add_class.Goals as goal

pub returns-then-is_some : goal.returns-then-is_some
returns-then-is_some c =
    let s = view c.args.self.now in
    let made : Some c.in_ok-row.row ≡ class_of c.args.code c.args.currency c.args.spread c.args.minimum = grind (arith, to_z-of_z) in
    let seen : is_some (sought class_rank (lettered c.args.code) s.classes) ≡ true = ap is_some (sym c.find.ensures.answer) ∙ sym c.if-is_some.ensures in
    record { after = told_as (search rules) (class_twice s c.args.code c.args.currency c.args.spread c.args.minimum c.in_ok-row.row made seen) }

pub returns-then-not-quotes : goal.returns-then-not-quotes
returns-then-not-quotes c =
    let s = view c.args.self.now in
    let made : Some c.in_ok-row.row ≡ class_of c.args.code c.args.currency c.args.spread c.args.minimum = grind (arith, to_z-of_z) in
    let new : is_some (sought class_rank (lettered c.args.code) s.classes) ≡ false = ap is_some (sym c.find.ensures.answer) ∙ sym c.if-is_some.ensures in
    let none : quoted s.rates c.args.currency ≡ false = grind (arith, nat_tests) in
    record { after = told_as (search rules) (class_unquoted s c.args.code c.args.currency c.args.spread c.args.minimum c.in_ok-row.row made new none) }

pub invariant_of-self : goal.invariant_of-self
invariant_of-self c =
    let s = c.args.self.now in
    let made : Some c.in_ok-row.row ≡ class_of c.args.code c.args.currency c.args.spread c.args.minimum = grind (arith, to_z-of_z) in
    let quote : quoted s.rates.by_number c.args.currency ≡ true = grind (arith, nat_tests) in
    record { whole = whole_with_class s.whole c.insert.ensures.entry (class_row_fits c.args.code c.args.currency c.args.spread c.args.minimum c.in_ok-row.row made s.rates.by_number quote) }

pub returns : goal.returns
returns c =
    let s = c.args.self.now in
    let made : Some c.in_ok-row.row ≡ class_of c.args.code c.args.currency c.args.spread c.args.minimum = grind (arith, to_z-of_z) in
    let new : is_some (sought class_rank (lettered c.args.code) (held s.classes)) ≡ false = ap is_some (sym c.find.ensures.answer) ∙ sym c.if-is_some.ensures in
    let quote : quoted s.rates.by_number c.args.currency ≡ true = grind (arith, nat_tests) in
    record { after = rw c.told.ensures.value (class_entered c.args.code c.args.currency c.args.spread c.args.minimum c.in_ok-row.row made s.rates.by_number (held s.series) _ (held s.classes) (lent s.classes) _ _ new quote _ c.insert.ensures.entry) }
