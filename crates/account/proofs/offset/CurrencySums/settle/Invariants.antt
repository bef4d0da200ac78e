use Rattle.std.proofs.Common.{◌≡◌, ◌+◌, ◌*◌, ◌≤◌, ◌++◌, length, take, drop}
use Rattle.account.specs.Offset.{owed_of, requirement_of}
use Rattle.account.proofs.offset.CurrencySums.settle.Given as goal

abbrev pub invariant-loop-i : goal.invariant-loop-i
invariant-loop-i l =
    let rest = owed_of l.left (drop l.i l.self.sums) (drop l.i l.self.rates) in
    let all = owed_of l.fund l.self.sums l.self.rates in
    record {
      five : length l.place-items ≡ 5;
      bound : l.requirement ≤ l.i * 20000000000000000;
      required : l.requirement + requirement_of rest (drop l.i l.self.rates) ≡ requirement_of all l.self.rates;
      owed : take l.i l.place-items ++ rest ≡ all;
    }
