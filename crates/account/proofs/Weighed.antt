-- An account's value class by class: each class figure × the rate of its currency, added up.
use Rattle.std.proofs.Common.{◌≡◌, ℕ, zero, suc, pred, ◌<◌, cond, List, [], ◌∷◌, map, length, replicate, set, ℤ, pos, ◌+ℤ◌, ◌*ℤ◌, Ok, refl, ap, ◌∙◌, arith}
use Rattle.std.specs.Prelude.{slice_index}
use borrow.Author.Differences.{ints}
use Rattle.terms.specs.declared.names.Name.{Name}
use Rattle.terms.specs.declared.words.Basis.{Basis}
use Rattle.terms.specs.declared.words.Currency.{Currency}
use Rattle.terms.specs.declared.words.Currency.TheVariants.{Hkd, Usd, Eur, Jpy, Rmb}
use Rattle.terms.specs.Words.{currency_number}
use Rattle.sheet.specs.declared.rows.ClassRow.{ClassRow}
use Rattle.sheet.specs.declared.rows.Series.{Series}
use Rattle.charge.specs.Meanings.{Meaning}
use Rattle.charge.specs.Positions.{joined}
use Rattle.charge.specs.Sizes.{add_times}
use Rattle.account.specs.declared.rule.AccountReport.{AccountReport}
use Rattle.account.specs.Outcomes.{beyond, and_then}
use Rattle.account.specs.Pieces.{margined_counts}
use Rattle.account.specs.Figures.{figure_of, figures_of}
use Rattle.account.specs.Sums.{currencies, same_currency, sum_of, currency_too_large, currency_sum, sums_of, value_of}
use Rattle.account.specs.Rule.{Tally, tally, tally_of, report_of, account_report}
use Rattle.account.proofs.Outcomes.{after_ok}
use Rattle.account.specs.Plain.{class_plain, all_sums, plain_report}
use Rattle.account.proofs.Answered.{passed, same_ok, each_plain, class_figure_plain}

abbrev pub rate_of : List ℕ → ClassRow → ℕ
rate_of rates k = slice_index rates (currency_number k.currency)

abbrev pub weighed : List ℕ → List ClassRow → List ℤ → ℤ
weighed rates [] zs = pos 0
weighed rates (k ∷ classes) [] = pos 0
weighed rates (k ∷ classes) (z ∷ zs) = (z *ℤ pos (rate_of rates k)) +ℤ weighed rates classes zs

-- values of sums: of none, of one, and of sums added
value_zeros : (n : ℕ) (rates : List ℕ) → value_of (replicate n (pos 0)) rates ≡ pos 0
value_zeros zero rates = refl
value_zeros (suc n) [] = refl
value_zeros (suc n) (r ∷ rates) = omega (arith, ints, value_zeros n rates)

value_one : (i n : ℕ) (z : ℤ) (rates : List ℕ) → i < n → value_of (set (replicate n (pos 0)) i z) rates ≡ z *ℤ pos (slice_index rates i)
value_one i zero z rates h = absurd (omega arith)
value_one zero (suc n) z [] h = omega (arith, ints)
value_one (suc i) (suc n) z [] h = omega (arith, ints)
value_one zero (suc n) z (r ∷ rates) h = omega (arith, ints, value_zeros n rates)
value_one (suc i) (suc n) z (r ∷ rates) h = omega (arith, ints, value_one i n z rates (omega arith))

value_add : (xs ys : List ℤ) (rates : List ℕ) → length xs ≡ length ys → value_of (joined xs ys) rates ≡ value_of xs rates +ℤ value_of ys rates
value_add [] [] rates e = refl
value_add [] (y ∷ ys) rates e = absurd (omega arith)
value_add (x ∷ xs) [] rates e = absurd (omega arith)
value_add (x ∷ xs) (y ∷ ys) [] e = refl
value_add (x ∷ xs) (y ∷ ys) (r ∷ rates) e = omega (arith, ints, add_times x y (pos r), value_add xs ys rates (ap pred e))

-- a figure of one currency alone
own_value : (c : Currency) (z : ℤ) (rates : List ℕ) → value_of (map (λ d. cond (same_currency c d) z (pos 0)) currencies) rates ≡ z *ℤ pos (slice_index rates (currency_number c))
own_value Hkd z rates = value_one 0 5 z rates (omega arith)
own_value Usd z rates = value_one 1 5 z rates (omega arith)
own_value Eur z rates = value_one 2 5 z rates (omega arith)
own_value Jpy z rates = value_one 3 5 z rates (omega arith)
own_value Rmb z rates = value_one 4 5 z rates (omega arith)

pub value_by_class : (rates : List ℕ) (classes : List ClassRow) (zs : List ℤ) → value_of (all_sums classes zs) rates ≡ weighed rates classes zs
value_by_class rates [] zs = value_zeros 5 rates
value_by_class rates (k ∷ classes) [] = value_zeros 5 rates
value_by_class rates (k ∷ classes) (z ∷ zs) =
    let own = map (λ d. cond (same_currency k.currency d) z (pos 0)) currencies in
    let e : value_of (all_sums (k ∷ classes) (z ∷ zs)) rates ≡ value_of own rates +ℤ value_of (all_sums classes zs) rates = value_add own (all_sums classes zs) rates refl in
    omega (arith, ints, e, own_value k.currency z rates, value_by_class rates classes zs)

-- accepted sums are the sums of the currencies
sums_plain : (name : Name) (classes : List ClassRow) (zs sums : List ℤ) → sums_of name classes zs ≡ Ok sums → sums ≡ all_sums classes zs
sums_plain name classes zs sums e =
    each_plain (currency_sum name classes zs) (λ c. sum_of c classes zs)
    (λ c z h. same_ok (sum_of c classes zs) z (passed (beyond (sum_of c classes zs)) (currency_too_large name c) (Ok (sum_of c classes zs)) z h))
    currencies sums e

-- where an account's report answers, it is the plain report
pub report_plain : (m : Meaning) (name : Name) (b : Basis) (rates : List ℕ) (classes : List ClassRow) (rows : List Series) (longs shorts : List ℕ) (r : AccountReport) →
    account_report m name b rates classes rows longs shorts ≡ Ok r → r ≡ plain_report m b rates classes rows longs shorts
report_plain m name b rates classes rows longs shorts r e =
    let counts = margined_counts b longs shorts in
    let t = after_ok (tally_of m name b classes rows counts) (λ t. Ok (report_of t.figures t.sums rates)) r e in
    let f = after_ok (figures_of m name b rows counts classes) (λ figures. and_then (sums_of name classes figures) (λ sums. Ok (tally figures sums))) t.0 t.1 in
    let s = after_ok (sums_of name classes f.0) (λ sums. Ok (tally f.0 sums)) t.0 f.2 in
    let same : t.0 ≡ tally f.0 s.0 = same_ok (tally f.0 s.0) t.0 s.2 in
    let made : r ≡ report_of t.0.figures t.0.sums rates = same_ok (report_of t.0.figures t.0.sums rates) r t.2 in
    let figures = each_plain (figure_of m name b rows counts) (class_plain m b rows counts) (λ k z h. class_figure_plain m name b rows counts k z h) classes f.0 f.1 in
    let sums = sums_plain name classes f.0 s.0 s.1 in
    made ∙ ap (λ (x : Tally). report_of x.figures x.sums rates) same ∙ ap (λ xs. report_of f.0 xs rates) sums ∙ ap (λ zs. report_of zs (all_sums classes zs) rates) figures

-- and so its value is that of its plain class figures
pub account_value : (m : Meaning) (name : Name) (b : Basis) (rates : List ℕ) (classes : List ClassRow) (rows : List Series) (longs shorts : List ℕ) (r : AccountReport) →
    account_report m name b rates classes rows longs shorts ≡ Ok r → r.value ≡ weighed rates classes (map (class_plain m b rows (margined_counts b longs shorts)) classes)
account_value m name b rates classes rows longs shorts r e =
    ap (λ (x : AccountReport). x.value) (report_plain m name b rates classes rows longs shorts r e) ∙ value_by_class rates classes (map (class_plain m b rows (margined_counts b longs shorts)) classes)
