use Rattle.std.proofs.Common.{◌≡◌, ◌+◌, ◌*◌, ◌≤◌, length, ◌+ℤ◌, nat_abs}
use Rattle.account.specs.Sums.{value_of}
use Rattle.account.specs.Offset.{Limits}
use Rattle.account.proofs.offset.CurrencySums.value.Given as goal

abbrev pub invariant-loop-sum : goal.invariant-loop-sum
invariant-loop-sum l =
    let sums = l.sum-iterator.a.rest.now in
    let rates = l.sum-iterator.b.rest.now in
    record {
      limits : Limits sums rates;
      bound : nat_abs l.value + length sums * 20000000000000000 ≤ 100000000000000000;
      ahead : l.value +ℤ value_of sums rates ≡ value_of l.self.sums l.self.rates;
    }
