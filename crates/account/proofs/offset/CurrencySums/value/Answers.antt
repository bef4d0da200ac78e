use Rattle.std.proofs.Common.{length, ap, arith, w64, SFits, rules}
use borrow.Author.Differences.{ints}
use Rattle.std.proofs.lemmas.Int.{to_z-of_z}
use Rattle.std.proofs.lemmas.List.{nil_from_length}
use Rattle.account.proofs.Kit.{sum_back, abs_add}
use Rattle.account.proofs.Totals.{limits_ahead, value_ahead, value_none}
use Rattle.account.proofs.offset.CurrencySums.value.Goals as goal

pub loop-sum-preserved : goal.loop-sum-preserved
loop-sum-preserved c =
    let now = c.in-Some.ensures.steps in
    let r = c.value_line-value.result in
    let e = c.loop-sum.value-is in
    let i = rw e at c.loop-sum.invariant in
    let b = sum_back c.loop-sum.value r (omega (arith, i.bound, c.value_line-value.ensures.bound)) in
    let f : SFits w64 c.in-Some.field-0-0.now = search rules in
    let v = rw (to_z-of_z w64 _ f) at c.value_line-value.ensures.value in
    record {
      limits = limits_ahead _ _ _ _ _ _ now.0 now.1 i.limits;
      bound = rw (e, b) (omega (arith, abs_add c.loop-sum.value r, i.bound, c.value_line-value.ensures.bound, ap length now.0));
      ahead = rw (e, b) (omega (arith, ints, i.ahead, v, value_ahead _ _ _ _ _ _ now.0 now.1));
    }

pub returns-clause-value : goal.returns-clause-value
returns-clause-value c = grind (arith, ints, nil_from_length, value_none)
