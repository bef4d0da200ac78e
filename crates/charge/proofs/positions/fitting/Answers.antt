use Rattle.std.proofs.Common.{rules, tests, nat_le, unsigned_abs, arith, ◌≡◌}
use Rattle.std.proofs.lemmas.Bool.Decides.{nat_tests}
use Rattle.std.proofs.lemmas.Iterator.{YieldsList-from_slice}
use Rattle.std.proofs.lemmas.Iterator.Search.{all_from_yields_List}
use Rattle.charge.specs.Positions.{counts_fit}
use Rattle.charge.proofs.positions.fitting.Goals as goal

pub returns-then-counts-class : goal.returns-then-counts-class
returns-then-counts-class c =
    let e : c.all.result ≡ counts_fit c.args.counts.now = all_from_yields_List (λ n. nat_le (unsigned_abs n) 3200000) _ _ _ c.all.ensures.ran (YieldsList-from_slice c.args.counts.now (cc)) (λ x b q k. search (rules, tests)) in
    record { value = grind (arith, nat_tests) }
