use Rattle.std.proofs.Common.{◌≡◌, length, take, drop}
use Rattle.account.specs.Outcomes.{each, onto}
use Rattle.account.specs.Sums.{currencies, currency_sum}
use Rattle.account.proofs.sums.ClassFigures.currency_sums.Given as goal

abbrev pub invariant-loop-currency : goal.invariant-loop-currency
invariant-loop-currency l =
    let one = currency_sum l.self.account.name l.self.account.sheet.classes.now l.self.figures.now in
    let i = l.currency-index in
    record {
      five : length l.sums ≡ 5;
      ahead : onto (take i l.sums) (each one (drop i currencies)) ≡ each one currencies;
    }
