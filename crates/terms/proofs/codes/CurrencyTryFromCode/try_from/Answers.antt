use Rattle.std.proofs.Common.{◌≡◌, ◌∙◌, rules, tests, [], ◌∷◌}
use Rattle.std.proofs.lemmas.Iterator.{YieldsList-from_slice}
use Rattle.std.proofs.lemmas.Iterator.Search.{find_from_yields_List}
use Rattle.terms.specs.Codes.{currency_of, writes}
use Rattle.terms.specs.declared.words.Currency.{Currency}
use Rattle.terms.specs.declared.words.Currency.TheVariants.{Hkd, Usd, Eur, Jpy, Rmb}
use Rattle.terms.proofs.codes.CurrencyTryFromCode.try_from.Goals as goal

pub returns : goal.returns
returns c =
    let found : c.copied.result ≡ currency_of c.args.code =
    c.copied.ensures ∙ find_from_yields_List (λ (k : Currency). writes c.args.code k) _ _ _ c.find.ensures.ran (YieldsList-from_slice (Hkd ∷ Usd ∷ Eur ∷ Jpy ∷ Rmb ∷ []) cc) (λ x b q h. search (rules, tests)) in
    search (rules, found)
