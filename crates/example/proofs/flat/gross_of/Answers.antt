use Rattle.std.proofs.Common.{◌≡◌, ◌*◌, ◌≤◌, rules, tests, List, [], ◌∷◌, suc, length, ℤ, nat_abs, arith}
use Rattle.std.proofs.iter.runs.Made.{chains}
use Rattle.std.proofs.lemmas.Iterator.{YieldsList-from_slice, YieldsList-from_map}
use Rattle.std.proofs.lemmas.Iterator.Consumers.{YieldsList-at, fits_by_from_yields_list}
use Rattle.std.proofs.lemmas.List.Sums.{sum_by-cons}
use Rattle.sheet.specs.Limits.{Within}
use Rattle.charge.specs.declared.positions.Position.{Position}
use Rattle.charge.proofs.Dots.{fits_parts}
use Rattle.example.specs.Flat.{gross}
use Rattle.example.proofs.flat.gross_of.Goals as goal

gross_bound : (p : List ℤ) → Within 3200000 p → gross p ≤ length p * 3200000
gross_bound [] w = omega arith
gross_bound (n ∷ p) w = let h : nat_abs n ≤ 3200000 = w 0 in omega (arith, gross_bound p (λ i. w (suc i)), sum_by-cons nat_abs n p)

most : (p : Position) → gross p.counts.now ≤ 409600000
most p =
    let parts = fits_parts (length p.class.now.series.now) p.counts.now p.fits_class in
    omega (arith, gross_bound p.counts.now parts.1, p.class.now.inside.2)

pub sum-requires-clause-fits : goal.sum-requires-clause-fits
sum-requires-clause-fits c =
    fits_by_from_yields_list nat_abs c.args.position.now.counts.now c.map.result _ (YieldsList-from_map _ nat_abs (YieldsList-at c.map.ensures.source (YieldsList-from_slice c.args.position.now.counts.now (cc))) c.map.ensures.closure (λ x r q k. search (rules, tests))) (omega (arith, most c.args.position.now))

pub returns-clause-bound : goal.returns-clause-bound
returns-clause-bound c = let e : c.sum.result ≡ gross c.args.position.now.counts.now = search (rules, chains) in omega (arith, most c.args.position.now)
