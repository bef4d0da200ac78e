use Rattle.std.proofs.Common.{◌≤◌, length, pos, ◌+ℤ◌, ◌∙◌, arith, rules, tests, w64, SFits}
use lib.IntN.{+ℤ_idl}
use Rattle.std.proofs.lemmas.Int.{to_z-of_z}
use Rattle.std.proofs.lemmas.Iterator.{YieldsList-from_slice, YieldsList-from_zip, YieldsList-from_map}
use Rattle.std.proofs.lemmas.Iterator.Adapters.{total_from_yields_List}
use Rattle.std.proofs.lemmas.Iterator.Consumers.{YieldsList-from_filter, YieldsList-at}
use Rattle.account.proofs.Totals.{same_is}
use Rattle.account.proofs.Chains.{is_of, figure, runs_fit, picked_small, picked_sum}
use Rattle.account.proofs.sums.ClassFigures.sum_in.Goals as goal

pub sum-requires-clause-fits : goal.sum-requires-clause-fits
sum-requires-clause-fits c =
    let self = c.args.self.now in
    let few : length self.account.sheet.classes.now ≤ 16 = search rules in
    runs_fit c.map.result _ (λ n. omega (arith, few, picked_small c.args.wanted self.account.sheet.classes.now self.figures.now n (pos 0) self.bounded))
    (YieldsList-from_map _ figure (YieldsList-at c.map.ensures.source (YieldsList-from_filter _ (is_of c.args.wanted) (YieldsList-at c.filter.ensures.source (YieldsList-from_zip (YieldsList-from_slice self.account.sheet.classes.now (cc)) (YieldsList-from_slice self.figures.now (cc)))) c.filter.ensures.closure (λ x b q k. (search rules, search (rules, tests, same_is))))) c.map.ensures.closure (λ x r q k. search (rules, tests)))

pub returns : goal.returns
returns c =
    let self = c.args.self.now in
    let f : SFits w64 c.sum.result = search rules in
    record {
      value = to_z-of_z w64 _ f
          ∙ total_from_yields_List ◌+ℤ◌ (pos 0) c.sum.result c.sum.ensures.ran
          (YieldsList-from_map _ figure (YieldsList-at c.map.ensures.source (YieldsList-from_filter _ (is_of c.args.wanted) (YieldsList-at c.filter.ensures.source (YieldsList-from_zip (YieldsList-from_slice self.account.sheet.classes.now (cc)) (YieldsList-from_slice self.figures.now (cc)))) c.filter.ensures.closure (λ x b q k. (search rules, search (rules, tests, same_is))))) c.map.ensures.closure (λ x r q k. search (rules, tests)))
          ∙ picked_sum c.args.wanted self.account.sheet.classes.now self.figures.now (pos 0) ∙ +ℤ_idl _;
    }
