-- Rules 3 and 4: currency sums and the account's value.
use Rattle.std.specs.Prelude.{ℕ, Bool, cond, List, [], ◌∷◌, ℤ, pos, ◌+ℤ◌, ◌*ℤ◌, Ok, Err, Result, ◌==◌, slice_index_or}
use Rattle.terms.specs.declared.names.Name.{Name}
use Rattle.terms.specs.declared.words.Currency.{Currency}
use Rattle.terms.specs.declared.words.Currency.TheVariants.{Hkd, Usd, Eur, Jpy, Rmb}
use Rattle.terms.specs.declared.words.Refusal.TheVariants.{TooLarge}
use Rattle.terms.specs.declared.words.Layer.TheVariants.{Account}
use Rattle.terms.specs.declared.faults.Fault.{Fault}
use Rattle.terms.specs.Faults.{refused, with_account, with_currency}
use Rattle.terms.specs.Words.{currency_number}
use Rattle.sheet.specs.declared.rows.ClassRow.{ClassRow}
use Rattle.account.specs.Outcomes.{beyond, each}

-- The currencies in their order.
abbrev pub currencies : List Currency
currencies = Hkd ∷ Usd ∷ Eur ∷ Jpy ∷ Rmb ∷ []

abbrev pub currency_at : ℕ → Currency
currency_at k = slice_index_or currencies k Rmb

abbrev pub same_currency : Currency → Currency → Bool
same_currency a b = currency_number a == currency_number b

-- Class figures of one currency are added with their signs.
abbrev pub sum_of : Currency → List ClassRow → List ℤ → ℤ
sum_of c [] figures = pos 0
sum_of c (k ∷ classes) [] = pos 0
sum_of c (k ∷ classes) (z ∷ figures) = cond (same_currency k.currency c) z (pos 0) +ℤ sum_of c classes figures

-- A currency whose sum is too large: refusal 9 of the account's layer, with account and currency.
abbrev pub currency_too_large : Name → Currency → Fault
currency_too_large name c = with_currency c (with_account name (refused TooLarge Account))

-- The sum of a currency, which must not be too large.
abbrev pub currency_sum : Name → List ClassRow → List ℤ → Currency → Result ℤ Fault
currency_sum name classes figures c = cond (beyond (sum_of c classes figures)) (Err (currency_too_large name c)) (Ok (sum_of c classes figures))

-- The sums of the five currencies, in their order.
abbrev pub sums_of : Name → List ClassRow → List ℤ → Result (List ℤ) Fault
sums_of name classes figures = each (currency_sum name classes figures) currencies

-- The account's value is the sum of currency sum × rate.
abbrev pub value_of : List ℤ → List ℕ → ℤ
value_of [] rates = pos 0
value_of (s ∷ sums) [] = pos 0
value_of (s ∷ sums) (r ∷ rates) = s *ℤ pos r +ℤ value_of sums rates
