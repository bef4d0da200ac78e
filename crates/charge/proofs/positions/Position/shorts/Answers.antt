use Rattle.std.proofs.Common.{◌≤◌, rules, arith, tests, ◌∙◌}
use Rattle.std.proofs.lemmas.Iterator.{YieldsList-from_slice, YieldsList-from_zip, YieldsList-from_map}
use Rattle.std.proofs.lemmas.Iterator.Consumers.{YieldsList-from_filter, YieldsList-at, sum_from_yields_List, fits_from_yields_list}
use Rattle.terms.specs.declared.words.Kind.{Kind}
use Rattle.charge.specs.declared.positions.Position.{Position}
use Rattle.charge.specs.Minimum.{shorts}
use Rattle.charge.proofs.Dots.{fits_parts}
use Rattle.charge.proofs.Shorts.{is_short, size, shorts_picked, shorts_bound, same_kinds}
use Rattle.charge.proofs.positions.Position.shorts.Goals as goal

most : (p : Position) (k : Kind) → shorts k p.class.now.series.now p.counts.now ≤ 409600000
most p k = omega (arith, shorts_bound k p.class.now.series.now p.counts.now (fits_parts _ _ p.fits_class).1, p.class.now.inside.2)

pub sum-requires-clause-fits : goal.sum-requires-clause-fits
sum-requires-clause-fits c =
    fits_from_yields_list c.map.result _ (YieldsList-from_map _ size (YieldsList-at c.map.ensures.source (YieldsList-from_filter _ (is_short c.args.kind) (YieldsList-at c.filter.ensures.source (YieldsList-from_zip (YieldsList-from_slice c.args.self.now.counts.now (cc)) (YieldsList-from_slice c.args.self.now.class.now.series.now (cc)))) c.filter.ensures.closure (λ x b q k. (search rules, search (rules, tests, same_kinds))))) c.map.ensures.closure (λ x r q k. search (rules, tests))) (rw shorts_picked (omega (arith, most c.args.self.now c.args.kind)))

pub returns-clause-value : goal.returns-clause-value
returns-clause-value c =
    sum_from_yields_List c.map.result _ c.sum.ensures.ran (YieldsList-from_map _ size (YieldsList-at c.map.ensures.source (YieldsList-from_filter _ (is_short c.args.kind) (YieldsList-at c.filter.ensures.source (YieldsList-from_zip (YieldsList-from_slice c.args.self.now.counts.now (cc)) (YieldsList-from_slice c.args.self.now.class.now.series.now (cc)))) c.filter.ensures.closure (λ x b q k. (search rules, search (rules, tests, same_kinds))))) c.map.ensures.closure (λ x r q k. search (rules, tests))) ∙ shorts_picked _ _ _

pub returns-clause-bound : goal.returns-clause-bound
returns-clause-bound c = omega (arith, returns-clause-value c, most c.args.self.now c.args.kind)
