use Rattle.std.proofs.Common.{rules}
use Rattle.std.proofs.lemmas.Fn.{always_returns_same}
use Rattle.terms.specs.Order.{order}
use Rattle.register.proofs.Halves.{found_by_halves}
use Rattle.register.proofs.place_in_order.Goals as goal

pub returns : goal.returns
returns g c =
    let rank = g.R.Keyed.rank in
    let k = g.R.Keyed.wanted c.args.key.now in
    let found = c.binary_search_by.ensures in
    let is = found.position (λ x. order (rank x) k) (always_returns_same _ _ _ (λ a r f called. search rules)) in
    let halves = found_by_halves rank k c.args.rows.now c.requires c.binary_search_by.result found.bound is in
    record { value = search (rules, halves) }
