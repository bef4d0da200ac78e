-- Two names are one exactly where they tie in the order of names.
use Rattle.std.proofs.Common.{◌≡◌, Bool, true, false, Some, List, ℕ, is_some, sym, refl, ◌∙◌}
use Rattle.std.specs.Bool.{then_some}
use Rattle.std.specs.Cmp.Lexicographic.{texts_ties}
use Rattle.std.specs.Ordering.{is_eq}
use Rattle.terms.specs.Names.{named, spelled}
use Rattle.terms.specs.Order.{order}
use Rattle.terms.specs.declared.names.Name.{Name}
use Rattle.book.specs.Limits.{same_account}
use Rattle.book.proofs.limits.named_twice.Goals as goal

chosen : (b : Bool) (a : Name) → is_some (then_some b a) ≡ b
chosen true a = refl
chosen false a = refl

twice : (s t : List ℕ) (a b : Name) → Some a ≡ named s → Some b ≡ named t → is_some (then_some (is_eq (order (spelled a) (spelled b))) a) ≡ same_account s t
twice s t a b p q = rw (sym p, sym q) (chosen (is_eq (order (spelled a) (spelled b))) a)

pub returns-clause-same : goal.returns-clause-same
returns-clause-same c = rw (c.then_some.ensures, c.eq.ensures, texts_ties c.in_ok-a.a.text c.in_ok-b.b.text) (twice c.args.first.now c.args.second.now c.in_ok-a.a c.in_ok-b.b (c.in_ok-a.ensures.value ∙ c.try_from.ensures) (c.in_ok-b.ensures.value ∙ c.try_from-2.ensures))
