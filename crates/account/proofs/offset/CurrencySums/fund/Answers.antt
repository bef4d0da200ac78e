use Rattle.std.proofs.Common.{◌≡◌, length, ◌∙◌, arith, rules, tests}
use Rattle.std.proofs.lemmas.Iterator.{YieldsList-from_slice, YieldsList-from_zip, YieldsList-from_map}
use Rattle.std.proofs.lemmas.Iterator.Adapters.{serves_from_places}
use Rattle.std.proofs.lemmas.Iterator.Consumers.{YieldsList-at, sum_from_yields_List, fits_from_yields_list}
use Rattle.std.proofs.lemmas.Nat.{mul-le}
use Rattle.account.specs.Offset.{credit}
use Rattle.account.proofs.Lines.{line_limited, credit_line, credit_lines, fund_small}
use Rattle.account.proofs.offset.CurrencySums.fund.Goals as goal

pub sum-requires-clause-can : goal.sum-requires-clause-can
sum-requires-clause-can c =
    let self = c.args.self.now in (
      (tt, tt),
      serves_from_places (YieldsList-at c.map.ensures.source (YieldsList-from_zip (YieldsList-from_slice self.sums (cc)) (YieldsList-from_slice self.rates (cc)))) (λ x q r. search rules) (λ x k l e.
          let one = line_limited self.sums self.rates self.limits k _ _ l e in
          let small = mul-le (credit x.0.now) x.1.now 100000000000 200000 one.1 one.2 in
          search (rules, small)),
    )

pub sum-requires-clause-fits : goal.sum-requires-clause-fits
sum-requires-clause-fits c =
    let self = c.args.self.now in
    let five : length self.sums ≡ 5 = search rules in
    fits_from_yields_list c.map.result _
    (YieldsList-from_map _ credit_line (YieldsList-at c.map.ensures.source (YieldsList-from_zip (YieldsList-from_slice self.sums (cc)) (YieldsList-from_slice self.rates (cc)))) c.map.ensures.closure (λ x r q k. search (rules, tests)))
    (rw credit_lines (omega (arith, five, fund_small self.sums self.rates self.limits)))

pub returns : goal.returns
returns c =
    let self = c.args.self.now in
    record {
      value = sum_from_yields_List c.map.result _ c.sum.ensures.ran
          (YieldsList-from_map _ credit_line (YieldsList-at c.map.ensures.source (YieldsList-from_zip (YieldsList-from_slice self.sums (cc)) (YieldsList-from_slice self.rates (cc)))) c.map.ensures.closure (λ x r q k. search (rules, tests)))
          ∙ credit_lines self.sums self.rates;
    }
