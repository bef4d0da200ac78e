-- The law of the pool: a pool comes to no more than its accounts one by one and the allowance.
use Rattle.std.proofs.Common.{◌≡◌, ℕ, ◌+◌, List, [], ◌∷◌, ◌++◌, map, ℤ, pos, ◌+ℤ◌, ◌*ℤ◌, ◌≤ℤ◌, Ok, Err, Option, Result, refl, ap, ◌∙◌, arith}
use borrow.Author.Differences.{ints}
use Rattle.terms.specs.declared.codes.Code.{Code}
use Rattle.terms.specs.declared.faults.Fault.{Fault}
use Rattle.terms.specs.declared.words.Currency.{Currency}
use Rattle.terms.specs.declared.words.Layer.TheVariants.{Account}
use Rattle.terms.specs.declared.words.Leg.TheVariants.{Long, Short}
use Rattle.terms.specs.declared.words.Refusal.TheVariants.{TooLarge}
use Rattle.terms.specs.declared.words.Side.{Side}
use Rattle.terms.specs.Faults.{refused, with_currency}
use Rattle.sheet.specs.declared.rows.ClassRow.{ClassRow}
use Rattle.sheet.specs.declared.rows.Series.{Series}
use Rattle.sheet.specs.Given.{Terms, given}
use Rattle.charge.specs.Meanings.{Meaning, Lawful}
use Rattle.charge.specs.Sizes.{add_times}
use Rattle.account.specs.declared.rule.AccountReport.{AccountReport}
use Rattle.account.specs.Outcomes.{beyond, and_then}
use Rattle.account.specs.Pieces.{pieces, marks}
use Rattle.account.specs.declared.pools.ClassPool.{ClassPool}
use Rattle.account.specs.Pools.{class_pool}
use Rattle.account.specs.Sums.{currencies, sum_of, value_of}
use Rattle.account.proofs.Outcomes.{never, after_ok}
use Rattle.account.specs.Plain.{charged_of, plain_figure}
use Rattle.account.proofs.Answered.{passed, same_ok}
use Rattle.account.proofs.Joined.{class_pool_law}
use Rattle.account.proofs.Weighed.{rate_of, weighed, value_by_class, account_value}
use Rattle.book.specs.declared.rows.AccountRow.{AccountRow}
use Rattle.book.specs.declared.pooling.PoolFigures.{PoolFigures}
use Rattle.book.specs.Pool.{pool, pooled, counts_in, pieces_in, all_of, in_the_class, pool_in, pool_sum, summed, allowances}
use Rattle.book.specs.Reads.{counts_of}
use Rattle.book.specs.Reports.{row_report}
use Rattle.book.specs.State.{State}
use Rattle.book.proofs.Sums.{total, times_le, total_times, exchange, weighed_total}

-- the first of several answers, and those after it
pub all_more : {A B : Type 0} (g : A → Result B Fault) (x : A) (xs : List A) (zs : List B) → all_of g (x ∷ xs) ≡ Ok zs → (y : B) × (ys : List B) × (g x ≡ Ok y) × (all_of g xs ≡ Ok ys) × (zs ≡ y ∷ ys)
all_more g x xs zs e =
    let a = after_ok (g x) (λ y. and_then (all_of g xs) (λ ys. Ok (y ∷ ys))) zs e in
    let b = after_ok (all_of g xs) (λ ys. Ok (a.0 ∷ ys)) zs a.2 in
    (a.0, b.0, a.1, b.1, same_ok (a.0 ∷ b.0) zs b.2)

-- accepted sums are the sums of the currencies
sums_plain : (classes : List ClassRow) (figures : List ℤ) (cs : List Currency) (sums : List ℤ) → all_of (pool_sum classes figures) cs ≡ Ok sums → sums ≡ map (λ c. sum_of c classes figures) cs
sums_plain classes figures [] sums e = same_ok [] sums e
sums_plain classes figures (c ∷ cs) sums e =
    let a = all_more (pool_sum classes figures) c cs sums e in
    let z = sum_of c classes figures in
    let one = same_ok z a.0 (passed (beyond z) (with_currency c (refused TooLarge Account)) (Ok z) a.0 a.2) in
    a.4 ∙ ap (λ y. y ∷ a.1) one ∙ ap (λ ys. z ∷ ys) (sums_plain classes figures cs a.1 a.3)

sums_value : (rates : List ℕ) (classes : List ClassRow) (figures sums : List ℤ) → all_of (pool_sum classes figures) currencies ≡ Ok sums → value_of sums rates ≡ weighed rates classes figures
sums_value rates classes figures sums e = ap (λ xs. value_of xs rates) (sums_plain classes figures currencies sums e) ∙ value_by_class rates classes figures

pub class_ok : {X : Type 0} (c : Code) (r : Result X Fault) (z : X) → in_the_class c r ≡ Ok z → r ≡ Ok z
class_ok c (Ok y) z e = e
class_ok c (Err f) z e = absurd (never _ z e)

-- marks and charges of pieces after pieces
marks_after : (rows : List Series) (ps qs : List (List ℤ)) → marks rows (ps ++ qs) ≡ marks rows ps +ℤ marks rows qs
marks_after rows [] qs = omega (arith, ints)
marks_after rows (p ∷ ps) qs = omega (arith, ints, marks_after rows ps qs)

charged_after : (m : Meaning) (t : Terms) (ps qs : List (List ℤ)) → charged_of m t (ps ++ qs) ≡ charged_of m t ps + charged_of m t qs
charged_after m t [] qs = omega arith
charged_after m t (p ∷ ps) qs = omega (arith, charged_after m t ps qs)

-- each account's requirement value covers its value
abbrev pub Covered : Meaning → State → Type 0
Covered m s = (a : AccountRow) (r : AccountReport) → row_report m s a ≡ Ok r → r.value ≤ℤ pos r.requirement

module _ (m : Meaning) (s : State) where
  -- the plain figure of an account in a class, and its value at the rate of the class's currency
  abbrev figure_in : ClassRow → AccountRow → ℤ
  figure_in k a = plain_figure m a.basis (given k s.series) (counts_in s k a)

  abbrev value_in : ClassRow → AccountRow → ℤ
  value_in k a = figure_in k a *ℤ pos (rate_of s.rates k)

  figures_in : (k : ClassRow) (rows : List AccountRow) → total (figure_in k) rows ≡ marks (given k s.series).rows (pieces_in s k rows) +ℤ pos (charged_of m (given k s.series) (pieces_in s k rows))
  figures_in k [] = refl
  figures_in k (a ∷ rows) =
      let ps = pieces a.basis (counts_in s k a) in
      omega (arith, ints, figures_in k rows, marks_after (given k s.series).rows ps (pieces_in s k rows), charged_after m (given k s.series) ps (pieces_in s k rows))

  -- class by class the pool is at most its accounts' values and the allowance
  pools_by_class : Lawful m → (rows : List AccountRow) (classes : List ClassRow) (ps : List ClassPool) → all_of (pool_in m s rows) classes ≡ Ok ps
      → weighed s.rates classes (map (λ (p : ClassPool). p.figure) ps) ≤ℤ (total (λ k. total (value_in k) rows) classes +ℤ allowances s.rates classes ps)
  pools_by_class law rows [] ps e = omega (arith, ints)
  pools_by_class law rows (k ∷ classes) ps e =
      let a = all_more (pool_in m s rows) k classes ps e in
      let p = a.0 in
      let r = rate_of s.rates k in
      let qs = pieces_in s k rows in
      let one = class_pool_law m law (given k s.series) qs p (class_ok k.code (class_pool m (given k s.series) qs) p a.2) in
      let le : p.figure ≤ℤ (total (figure_in k) rows +ℤ p.allowance) = omega (arith, ints, one, figures_in k rows) in
      let at_rate = times_le p.figure (total (figure_in k) rows +ℤ p.allowance) r le in
      let split = add_times (total (figure_in k) rows) p.allowance (pos r) in
      let each = total_times (figure_in k) r rows in
      let rest = pools_by_class law rows classes a.1 a.3 in
      rw a.4 (omega (arith, ints, at_rate, split, each, rest))

  -- the accounts' values are covered by their requirement values
  values_covered : Covered m s → (rows : List AccountRow) (reports : List AccountReport) → all_of (row_report m s) rows ≡ Ok reports
      → total (λ a. total (λ k. value_in k a) s.classes) rows ≤ℤ pos (summed reports)
  values_covered h [] reports e = rw (same_ok [] reports e) (omega (arith, ints))
  values_covered h (a ∷ rows) reports e =
      let c = all_more (row_report m s) a rows reports e in
      let value = account_value m a.name a.basis s.rates s.classes s.series (counts_of s a.slot Long) (counts_of s a.slot Short) c.0 c.2 in
      let by = weighed_total s.rates (λ k. figure_in k a) s.classes in
      rw c.4 (omega (arith, ints, value, by, h a c.0 c.2, values_covered h rows c.1 c.3))

-- Wherever a pool answers, for a lawful charge, it is at most the summed requirement value and the pooling allowance.
pub pool_law : (m : Meaning) → Lawful m → (s : State) → Covered m s → (o : Option Side) (p : PoolFigures) → pool m s o ≡ Ok p → p.value ≤ℤ (pos p.summed +ℤ p.allowance)
pool_law m law s covered o p e =
    let rows = pooled s o in
    let figures : List ClassPool → List ℤ = λ ps. map (λ p. p.figure) ps in
    let out : List AccountReport → List ClassPool → List ℤ → PoolFigures = λ reports ps sums. record { value = value_of sums s.rates; summed = summed reports; allowance = allowances s.rates s.classes ps } in
    let r = after_ok (all_of (row_report m s) rows) (λ reports. and_then (all_of (pool_in m s rows) s.classes) (λ ps. and_then (all_of (pool_sum s.classes (figures ps)) currencies) (λ sums. Ok (out reports ps sums)))) p e in
    let c = after_ok (all_of (pool_in m s rows) s.classes) (λ ps. and_then (all_of (pool_sum s.classes (figures ps)) currencies) (λ sums. Ok (out r.0 ps sums))) p r.2 in
    let u = after_ok (all_of (pool_sum s.classes (figures c.0)) currencies) (λ sums. Ok (out r.0 c.0 sums)) p c.2 in
    let made : p ≡ out r.0 c.0 u.0 = same_ok (out r.0 c.0 u.0) p u.2 in
    let value = sums_value s.rates s.classes (figures c.0) u.0 u.1 in
    rw made (omega (arith, ints, value, pools_by_class m s law rows s.classes c.0 c.1, exchange (value_in m s) s.classes rows, values_covered m s covered rows r.0 r.1))
