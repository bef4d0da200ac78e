use Rattle.std.proofs.Common.{◌≡◌, ◌<◌, List, ℕ, [], ◌∷◌, ◌++◌, length, drop, ap, ◌∙◌, rules}
use Rattle.terms.specs.Words.{currency_letters}
use Rattle.lines.specs.Columns.{laid}
use Rattle.lines.specs.Report.{amount}
use Rattle.lines.proofs.Lays.{feed_put, letter_put}
use Rattle.lines.proofs.report.put_owed.Goals as goal

pub returns : goal.returns
returns c =
    let name = c.args.name.now.text in
    let currency = currency_letters c.args.currency in
    let owed = amount c.args.owed in
    let wide : length c.args.out.now ≡ 41 = search rules in
    let some : 0 < length c.put_field.new.out = search rules in
    let twenty : length c.args.name.now.text ≡ 20 = search rules in
    let named : drop 1 c.put_field.new.out ≡ 32 ∷ (name ++ drop 22 c.put_currency.new.out) = rw twenty at c.put_field.ensures.after in
    record {
      value = letter_put c.put_field.new.out (laid (name ∷ currency ∷ owed ∷ [])) 75 some
          (named ∙ ap (λ (x : List ℕ). 32 ∷ (name ++ x))
          (c.put_currency.ensures.after ∙ ap (λ (x : List ℕ). 32 ∷ (currency ++ x))
          (c.put_figure.ensures.after ∙ ap (λ (x : List ℕ). 32 ∷ (owed ++ x)) (feed_put c.args.out.now 40 wide))));
    }
