use Rattle.std.proofs.Common.{rules}
use Rattle.std.specs.Cmp.Lexicographic.{on_texts}
use Rattle.std.specs.Ordering.{is_lt}
use Rattle.std.proofs.lemmas.Fn.{always_returns_same}
use Rattle.terms.specs.Order.{order}
use Rattle.register.proofs.Sorted.{next_enough, test_decides}
use Rattle.register.proofs.in_order.Goals as goal

pub returns : goal.returns
returns g c =
    let rank = g.R.Keyed.rank in
    let rows = c.args.rows.now in
    let asked = c.is_sorted_by.ensures.cases (λ x y. is_lt (order (rank x) (rank y))) (always_returns_same _ _ _ (λ a r f called. search rules)) in
    let same = next_enough (λ a b. order (rank a) (rank b)) (on_texts rank) _ rows asked in
    record { answer = same; means = rw same (test_decides (λ a b. order (rank a) (rank b)) rows) }
