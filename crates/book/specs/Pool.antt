-- The pool: the pieces of one side's accounts, or of all, joined in opening order and then in sheet order, and margined as one position.
use Rattle.std.specs.Prelude.{◌≡◌, ℕ, ◌+◌, Bool, true, cond, List, [], ◌∷◌, ◌++◌, length, map, filter, ℤ, pos, ◌+ℤ◌, ◌*ℤ◌, Some, None, Ok, Err, Option, Result, ◌==◌, slice_index, unsigned_abs, ◌≤◌}
use Rattle.std.specs.List.{All}
use Rattle.terms.specs.declared.codes.Code.{Code}
use Rattle.terms.specs.declared.faults.Fault.{Fault}
use Rattle.terms.specs.declared.words.Currency.{Currency}
use Rattle.terms.specs.declared.words.Layer.TheVariants.{Account}
use Rattle.terms.specs.declared.words.Leg.TheVariants.{Long, Short}
use Rattle.terms.specs.declared.words.Refusal.TheVariants.{TooLarge}
use Rattle.terms.specs.declared.words.Side.{Side}
use Rattle.terms.specs.Faults.{refused, with_class, with_currency}
use Rattle.terms.specs.Words.{currency_number, side_number}
use Rattle.sheet.specs.declared.rows.ClassRow.{ClassRow}
use Rattle.sheet.specs.declared.rows.Series.{Series}
use Rattle.sheet.specs.Given.{given}
use Rattle.sheet.specs.Limits.{Within}
use Rattle.sheet.specs.Rows.{of_class, beside}
use Rattle.charge.specs.Meanings.{Meaning}
use Rattle.account.specs.declared.rule.AccountReport.{AccountReport}
use Rattle.account.specs.Outcomes.{and_then, beyond}
use Rattle.account.specs.Pieces.{margined_counts, pieces}
use Rattle.account.specs.declared.pools.ClassPool.{ClassPool}
use Rattle.account.specs.Pools.{class_pool}
use Rattle.account.specs.Sums.{currencies, sum_of, value_of}
use Rattle.book.specs.declared.pooling.PoolFigures.{PoolFigures}
use Rattle.book.specs.declared.rows.AccountRow.{AccountRow}
use Rattle.book.specs.Reads.{counts_of}
use Rattle.book.specs.Reports.{in_opening_order, row_report}
use Rattle.book.specs.State.{State}

-- the accounts that a pool names, of one side or, where none is named, of both; in opening order
abbrev pub pools : Option Side → AccountRow → Bool
pools None a = true
pools (Some s) a = side_number a.side == side_number s

abbrev pub pooled : State → Option Side → List AccountRow
pooled s o = filter (pools o) (in_opening_order s.accounts)

-- an account's margined counts in a class
abbrev pub counts_in : State → ClassRow → AccountRow → List ℤ
counts_in s k a = beside k.code s.series (margined_counts a.basis (counts_of s a.slot Long) (counts_of s a.slot Short))

-- As many as the class has series, and none above 100,000 in size.
abbrev pub Counted : Code → List Series → List ℤ → Type 0
Counted c rows ns = (length ns ≡ length (of_class c rows)) × Within 100000 ns

-- the pieces of accounts in a class, account after account
abbrev pub pieces_in : State → ClassRow → List AccountRow → List (List ℤ)
pieces_in s k [] = []
pieces_in s k (a ∷ rows) = pieces a.basis (counts_in s k a) ++ pieces_in s k rows

-- answers of all, in their order, or the first refusal
abbrev pub all_of : {A B : Type 0} → (A → Result B Fault) → List A → Result (List B) Fault
all_of g [] = Ok []
all_of g (x ∷ xs) = and_then (g x) (λ y. and_then (all_of g xs) (λ ys. Ok (y ∷ ys)))

-- The pool of a class. What is at fault is the pooled position, of no account, in that class.
abbrev pub in_the_class : {X : Type 0} → Code → Result X Fault → Result X Fault
in_the_class c (Ok x) = Ok x
in_the_class c (Err f) = Err (with_class c f)

abbrev pub pool_in : Meaning → State → List AccountRow → ClassRow → Result ClassPool Fault
pool_in m s rows k = in_the_class k.code (class_pool m (given k s.series) (pieces_in s k rows))

-- Each class's figure is at most 2 × 10^11 in size, and its allowance at most 10^11.
abbrev pub Limited : List ClassPool → Type 0
Limited ps = All (λ (p : ClassPool). (unsigned_abs p.figure ≤ 200000000000) × (unsigned_abs p.allowance ≤ 100000000000)) ps

-- the sum of a currency's figures, which must not be too large; no account is named
abbrev pub pool_sum : List ClassRow → List ℤ → Currency → Result ℤ Fault
pool_sum classes figures c = cond (beyond (sum_of c classes figures)) (Err (with_currency c (refused TooLarge Account))) (Ok (sum_of c classes figures))

-- the requirement values of the accounts, added up
abbrev pub summed : List AccountReport → ℕ
summed [] = 0
summed (r ∷ reports) = r.requirement + summed reports

-- each class's allowance × the rate of its currency, added up
abbrev pub allowances : List ℕ → List ClassRow → List ClassPool → ℤ
allowances rates [] ps = pos 0
allowances rates (k ∷ classes) [] = pos 0
allowances rates (k ∷ classes) (p ∷ ps) = (p.allowance *ℤ pos (slice_index rates (currency_number k.currency))) +ℤ allowances rates classes ps

-- A pool's refusals in their order: its accounts' reports, then each class by its code, then the currencies.
abbrev pub pool : Meaning → State → Option Side → Result PoolFigures Fault
pool m s o =
    and_then (all_of (row_report m s) (pooled s o)) (λ reports.
    and_then (all_of (pool_in m s (pooled s o)) s.classes) (λ ps.
    and_then (all_of (pool_sum s.classes (map (λ p. p.figure) ps)) currencies) (λ sums.
    Ok (record { value = value_of sums s.rates; summed = summed reports; allowance = allowances s.rates s.classes ps }))))
