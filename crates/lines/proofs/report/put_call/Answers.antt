use Rattle.std.proofs.Common.{◌≡◌, ◌<◌, List, ℕ, [], ◌∷◌, ◌++◌, length, drop, ap, ◌∙◌, rules}
use Rattle.terms.specs.Words.{currency_letters, side_letter}
use Rattle.lines.specs.Columns.{laid}
use Rattle.lines.specs.Report.{amount}
use Rattle.lines.proofs.Lays.{feed_put, letter_put}
use Rattle.lines.proofs.report.put_call.Goals as goal

pub returns : goal.returns
returns c =
    let side = side_letter c.args.side ∷ [] in
    let currency = currency_letters c.args.currency in
    let requirement = amount c.args.requirement in
    let call = amount c.args.call in
    let wide : length c.args.out.now ≡ 36 = search rules in
    let some : 0 < length c.put_field.new.out = search rules in
    let sided : drop 1 c.put_field.new.out ≡ 32 ∷ (side ++ drop 3 c.put_currency.new.out) = rw c.letter.ensures.value at c.put_field.ensures.after in
    record {
      value = letter_put c.put_field.new.out (laid (side ∷ currency ∷ requirement ∷ call ∷ [])) 78 some
          (sided ∙ ap (λ (x : List ℕ). 32 ∷ (side ++ x))
          (c.put_currency.ensures.after ∙ ap (λ (x : List ℕ). 32 ∷ (currency ++ x))
          (c.put_figure-2.ensures.after ∙ ap (λ (x : List ℕ). 32 ∷ (requirement ++ x))
          (c.put_figure.ensures.after ∙ ap (λ (x : List ℕ). 32 ∷ (call ++ x)) (feed_put c.args.out.now 35 wide)))));
    }
