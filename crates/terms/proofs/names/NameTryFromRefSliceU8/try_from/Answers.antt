-- Twenty blanks with the text written over their front are the text with blanks behind it.
use Rattle.std.proofs.Common.{◌≡◌, ℕ, true, List, ◌++◌, length, Some, sym, ap, ◌∙◌}
use Rattle.std.proofs.lemmas.List.{drop-replicate}
use Rattle.terms.specs.Names.{name_form}
use Rattle.terms.specs.declared.names.Name.{Name}
use Rattle.terms.proofs.names.NameTryFromRefSliceU8.try_from.Goals as goal

made : List ℕ → Name
made t = record { text = t }

pub returns : goal.returns
unfolding made
returns c =
    let t = c.args.text.now in
    let form : name_form t ≡ true = sym c.has_form.ensures.value ∙ c.if-not-has_form.false in
    let text = c.write_front.ensures.after ∙ ap (λ (l : List ℕ). t ++ l) (drop-replicate (length t) 20 32) in
    rw form (ap (λ (l : List ℕ). Some (made l)) text)
