-- A sheet stays one when a class or a series is put in.
use Rattle.std.proofs.Common.{◌≡◌, ℕ, zero, suc, ◌<◌, true, nat_lt, List, [], ◌∷◌, slice_index, slice_set, Result, arith}
use Rattle.std.proofs.lemmas.Bool.{false≢true, and_parts, and_from}
use Rattle.std.proofs.lemmas.Bool.Decides.{nat_tests}
use Rattle.std.proofs.lemmas.List.Elements.{All-weaker}
use Rattle.terms.specs.Words.{currency_number}
use Rattle.terms.specs.declared.words.Refusal.{Refusal}
use Rattle.register.specs.Rows.{Entry}
use Rattle.register.proofs.Kept.{all_after, known_entered}
use Rattle.sheet.specs.declared.rows.ClassRow.{ClassRow}
use Rattle.sheet.specs.declared.rows.Series.{Series}
use Rattle.sheet.specs.Limits.{class_fits, quoted, row_fits, series_fits}
use Rattle.sheet.specs.Rows.{class_rank, series_rank, series_class, known}
use Rattle.sheet.specs.Whole.{IsSheet}

pub whole_with_class : {rates : List ℕ} {series : List Series} {old xs : List ClassRow} {row : ClassRow} {r : Result ℕ Refusal} {new xs' : List ClassRow} →
    IsSheet rates old series → Entry class_rank 16 old xs row r new xs' → class_fits rates row ≡ true → IsSheet rates new series
whole_with_class {rates = rates} {series = series} {old = old} {row = row} {r = r} {new = new} w e fit = record {
  few_classes = e.most w.few_classes;
  few_series = w.few_series;
  classes_fit = all_after (λ k. class_fits rates k ≡ true) e fit w.classes_fit;
  series_fit = w.series_fit;
  series_known = All-weaker (λ s. known old s ≡ true) (λ s. known new s ≡ true) (λ s p. rw e.rows (known_entered class_rank (series_class s) r old row p)) series w.series_known;
}

pub whole_with_series : {rates : List ℕ} {classes : List ClassRow} {old xs : List Series} {row : Series} {r : Result ℕ Refusal} {new xs' : List Series} →
    IsSheet rates classes old → Entry series_rank 128 old xs row r new xs' → series_fits row ≡ true → known classes row ≡ true → IsSheet rates classes new
whole_with_series {classes = classes} w e fit there = record {
  few_classes = w.few_classes;
  few_series = e.most w.few_series;
  classes_fit = w.classes_fit;
  series_fit = all_after (λ s. series_fits s ≡ true) e fit w.series_fit;
  series_known = all_after (λ s. known classes s ≡ true) e there w.series_known;
}

-- a rate that is put in leaves each quoted currency quoted
still : (rates : List ℕ) (n k rate : ℕ) → 0 < rate → nat_lt 0 (slice_index rates k) ≡ true → nat_lt 0 (slice_index (slice_set rates n rate) k) ≡ true
still [] n k rate lt q = absurd (false≢true q)
still (r ∷ rates) zero zero rate lt q = grind (arith, nat_tests)
still (r ∷ rates) zero (suc k) rate lt q = q
still (r ∷ rates) (suc n) zero rate lt q = q
still (r ∷ rates) (suc n) (suc k) rate lt q = still rates n k rate lt q

pub whole_with_rate : {rates : List ℕ} {classes : List ClassRow} {series : List Series} → (n rate : ℕ) → 0 < rate → IsSheet rates classes series → IsSheet (slice_set rates n rate) classes series
whole_with_rate {rates = rates} {classes = classes} n rate lt w = record {
  few_classes = w.few_classes;
  few_series = w.few_series;
  classes_fit = All-weaker (λ r. class_fits rates r ≡ true) (λ r. class_fits (slice_set rates n rate) r ≡ true)
      (λ r h. let p = and_parts (row_fits r) (quoted rates r.currency) h in and_from (row_fits r) _ p.0 (still rates n (currency_number r.currency) rate lt p.1)) classes w.classes_fit;
  series_fit = w.series_fit;
  series_known = w.series_known;
}
