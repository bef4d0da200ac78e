-- What the tests of the sheet say of a class.
use Rattle.std.proofs.Common.{◌≡◌, ℕ, zero, suc, ◌*◌, ◌<◌, ◌≤◌, true, leb, List, [], ◌∷◌, map, length, get_or, ℤ, pos, nat_abs, unwrap_or, arith, ⊎_elim}
use Rattle.std.specs.Ordering.{is_eq}
use Rattle.std.specs.List.{All}
use Rattle.std.proofs.lemmas.Bool.{and_parts, cases_lt, leb-true}
use Rattle.std.proofs.lemmas.List.{get_or_past}
use Rattle.std.proofs.lemmas.List.Elements.{All-filter, All-get_or, All-map, All-weaker}
use Rattle.std.proofs.lemmas.List.Sums.{length-filter, count_by-le-length}
use Rattle.terms.specs.Order.{order}
use Rattle.terms.specs.declared.codes.Code.{Code}
use Rattle.sheet.specs.declared.rows.ClassRow.{ClassRow}
use Rattle.sheet.specs.declared.rows.Series.{Series}
use Rattle.terms.specs.Codes.{proper, lettered}
use Rattle.terms.specs.Keys.{key_fits}
use Rattle.terms.specs.Limits.{between_limits}
use Rattle.sheet.specs.Limits.{values_fit, series_fits, line_fits, line_of, rates_fit, row_fits, quoted, class_fits, Within, scenario, delta_of, Inside, worth_of, Worthy}
use Rattle.sheet.specs.Given.{class_at, no_class}
use Rattle.sheet.specs.Rows.{of_class, series_class}
use Rattle.sheet.specs.Whole.{IsSheet}

values_within : (zs : List ℤ) (k : ℕ) → values_fit zs ≡ true → nat_abs (get_or zs k (pos 0)) ≤ 10000000
values_within [] k e = omega arith
values_within (z ∷ zs) zero e = leb-true _ _ (and_parts (leb (nat_abs z) 10000000) (values_fit zs) e).0
values_within (z ∷ zs) (suc k) e = values_within zs k (and_parts (leb (nat_abs z) 10000000) (values_fit zs) e).1

-- what a row's tests say
line_parts : (s : Series) → series_fits s ≡ true → (worth_of s ≤ 10000000) × (nat_abs s.delta ≤ 100) × (values_fit s.array ≡ true)
line_parts s e =
    let f = and_parts (line_fits (line_of s)) (values_fit s.array) e in
    let a = (and_parts (key_fits (line_of s).key) _ f.0).1 in
    let b = (and_parts (between_limits (pos s.price) 0 10000000) _ a).1 in
    let c = (and_parts (between_limits (pos s.shares) 1 99999) _ b).1 in
    let d = and_parts (leb (s.price * s.shares) 10000000) (leb (nat_abs s.delta) 100) c in
    (leb-true (s.price * s.shares) 10000000 d.0, leb-true (nat_abs s.delta) 100 d.1, f.1)

module _ (rows part : List Series) (k : Code) (fit : All (λ s. series_fits s ≡ true) rows) (is : part ≡ of_class k rows) where
  part_fits : All (λ s. series_fits s ≡ true) part
  part_fits = rw is (All-filter (λ s. is_eq (order (series_class s) (lettered k))) (λ s. series_fits s ≡ true) rows fit)

  within : (f : Series → ℤ) (n : ℕ) → ((s : Series) → series_fits s ≡ true → nat_abs (f s) ≤ n) → Within n (map f part)
  within f n small i =
      ⊎_elim
      (λ lt. All-get_or (λ z. nat_abs z ≤ n) (map f part) i (pos 0) lt (All-map (λ z. nat_abs z ≤ n) f part (All-weaker (λ s. series_fits s ≡ true) (λ s. nat_abs (f s) ≤ n) small part part_fits)))
      (λ ge. rw (get_or_past (map f part) i (pos 0) ge) (omega arith))
      (cases_lt i (length (map f part)))

  pub worthy_of : Worthy part
  worthy_of = within (λ s. pos (worth_of s)) 10000000 (λ s h. (line_parts s h).0)

  module _ (rates : List ℕ) (classes : List ClassRow) (i : ℕ) (lt : i < length classes) (whole : IsSheet rates classes rows) where
    pub inside_of : Inside (class_at classes i).spread_rate (class_at classes i).minimum_rate part
    inside_of =
        let row = class_at classes i in
        let f = and_parts (row_fits row) (quoted rates row.currency) (All-get_or (λ r. class_fits rates r ≡ true) classes i no_class lt whole.classes_fit) in
        let r = and_parts (leb (unwrap_or row.spread_rate 0) 100000) (leb row.minimum_rate 1000000) (and_parts (proper row.code) (rates_fit row.spread_rate row.minimum_rate) f.0).1 in
        let test = λ (s : Series). is_eq (order (series_class s) (lettered k)) in
        let few : length (of_class k rows) ≤ 128 = omega (arith, length-filter test rows, count_by-le-length test rows, whole.few_series) in
        (leb-true _ _ r.0, leb-true _ _ r.1, rw is few, within delta_of 100 (λ s h. (line_parts s h).1), λ j. within (scenario j) 10000000 (λ s h. values_within s.array j (line_parts s h).2))
