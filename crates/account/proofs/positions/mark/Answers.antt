use Rattle.std.proofs.Common.{length, pos, ◌+ℤ◌, ◌∙◌, arith, rules, tests, w64, SFits}
use lib.IntN.{+ℤ_idl}
use Rattle.std.proofs.lemmas.Int.{to_z-of_z}
use Rattle.std.proofs.lemmas.Iterator.{YieldsList-from_slice, YieldsList-from_zip, YieldsList-from_map}
use Rattle.std.proofs.lemmas.Iterator.Adapters.{serves_from_places, total_from_yields_List}
use Rattle.std.proofs.lemmas.Iterator.Consumers.{YieldsList-at}
use Rattle.charge.proofs.Dots.{fits_parts}
use Rattle.account.proofs.Chains.{runs_fit, mark_limited, mark_line, mark_lines, marks_small}
use Rattle.account.proofs.positions.mark.Goals as goal

pub sum-requires-clause-can : goal.sum-requires-clause-can
sum-requires-clause-can c =
    let position = c.args.position.now in
    let parts = fits_parts (length position.class.now.series.now) position.counts.now position.fits_class in (
      (tt, tt),
      serves_from_places (YieldsList-at c.map.ensures.source (YieldsList-from_zip (YieldsList-from_slice position.class.now.series.now (search rules)) (YieldsList-from_slice position.counts.now (search rules)))) (λ x q r. search rules) (λ x k l e.
          let one = mark_limited position.class.now.series.now position.counts.now position.class.now.worths parts.1 k _ _ l e in
          search (rules, one)),
    )

pub sum-requires-clause-fits : goal.sum-requires-clause-fits
sum-requires-clause-fits c =
    let position = c.args.position.now in
    let parts = fits_parts (length position.class.now.series.now) position.counts.now position.fits_class in
    runs_fit c.map.result _ (λ n. omega (arith, position.class.now.inside.2, marks_small n position.class.now.series.now position.counts.now (pos 0) position.class.now.worths parts.1))
    (YieldsList-from_map _ mark_line (YieldsList-at c.map.ensures.source (YieldsList-from_zip (YieldsList-from_slice position.class.now.series.now (search rules)) (YieldsList-from_slice position.counts.now (search rules)))) c.map.ensures.closure (λ x r q k. search (rules, tests)))

pub returns : goal.returns
returns c =
    let position = c.args.position.now in
    let f : SFits w64 c.sum.result = search rules in
    record {
      value = to_z-of_z w64 _ f
          ∙ total_from_yields_List ◌+ℤ◌ (pos 0) c.sum.result c.sum.ensures.ran
          (YieldsList-from_map _ mark_line (YieldsList-at c.map.ensures.source (YieldsList-from_zip (YieldsList-from_slice position.class.now.series.now (search rules)) (YieldsList-from_slice position.counts.now (search rules)))) c.map.ensures.closure (λ x r q k. search (rules, tests)))
          ∙ mark_lines position.class.now.series.now position.counts.now (pos 0) ∙ +ℤ_idl _;
    }
