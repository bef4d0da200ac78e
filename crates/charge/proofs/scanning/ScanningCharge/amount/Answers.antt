use Rattle.std.proofs.Common.{◌≡◌, ℕ, rules, tests, refl, ap, ◌∙◌, pos, arith}
use Rattle.std.proofs.lemmas.Int.{ints}
use Rattle.std.proofs.lemmas.Iterator.{YieldsList-from_range, YieldsList-from_map}
use Rattle.std.proofs.lemmas.Iterator.Consumers.{YieldsList-at, fold_from_yields_List}
use Rattle.std.specs.Int.{int_max}
use Rattle.terms.specs.declared.words.Label.TheVariants.{Scanning as Own}
use Rattle.charge.specs.Answers.{limited}
use Rattle.charge.specs.Scanning.{loss, worst}
use Rattle.charge.proofs.Losses.{worst_is}
use Rattle.charge.proofs.Parts.{casts, passed, answered}
use Rattle.charge.proofs.scanning.ScanningCharge.amount.Goals as goal

worst_of : (c : goal.After-fold-worst) → c.fold-worst.result ≡ pos (worst 16 c.args.class.now.series.now c.args.counts.now)
worst_of c =
    let f = λ (k : ℕ). loss k c.args.class.now.series.now c.args.counts.now in
    fold_from_yields_List _ int_max (pos 0) _ c.fold-worst.ensures.ran (YieldsList-from_map _ f (YieldsList-at c.map.ensures.source (YieldsList-from_range 0 16 16 (cc) refl)) c.map.ensures.closure (λ x r q k. search (rules, tests))) (λ a x b q k. (search rules, search (rules, tests))) ∙ worst_is 16 _ _

pub overflow_cast-worst : goal.overflow_cast-worst
overflow_cast-worst c = let e = worst_of c in casts c.fold-worst.result (search rules) (omega (arith, ints))

pub returns : goal.returns
returns c =
    let e = worst_of c.before in
    record { answer = answered _ _ _ _ _ (passed _ _ _ c.in_ok-position.ensures.answer) (c.limited.ensures.answer ∙ ap (λ n. limited n Own) (omega (arith, ints))) }
