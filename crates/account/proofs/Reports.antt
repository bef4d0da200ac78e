-- The report that is written is the report of the rule, and every account's own report keeps the law of the offset.
use Rattle.std.proofs.Common.{◌≡◌, ℕ, ◌-◌, List, ◌++◌, length, drop, map, replicate, ℤ, pos, Ok, sym, refl, ap, subst}
use Rattle.std.proofs.lemmas.List.{drop-replicate}
use Rattle.std.specs.List.{All}
use Rattle.std.specs.Prelude.{IsTrue}
use Rattle.terms.specs.declared.names.Name.{Name}
use Rattle.terms.specs.declared.words.Basis.{Basis}
use Rattle.sheet.specs.declared.rows.ClassRow.{ClassRow}
use Rattle.sheet.specs.declared.rows.Series.{Series}
use Rattle.sheet.specs.declared.sheets.Sheet.{Sheet}
use Rattle.sheet.specs.Limits.{class_fits}
use Rattle.charge.specs.Meanings.{Meaning}
use Rattle.account.specs.declared.rule.AccountReport.{AccountReport}
use Rattle.account.specs.Outcomes.{and_then}
use Rattle.account.specs.Pieces.{margined_counts}
use Rattle.account.specs.Figures.{figures_of}
use Rattle.account.specs.Sums.{sums_of, value_of}
use Rattle.account.specs.Offset.{fund_of, owed_of, requirement_of, Limits, Law, Owable}
use Rattle.account.specs.Plain.{all_sums, class_plain, plain_report}
use Rattle.account.specs.Rule.{tally, tally_of, report_of, account_report}
use Rattle.account.proofs.Outcomes.{after_ok}
use Rattle.account.proofs.Totals.{rated_sums, sums_limits}
use Rattle.account.proofs.Offsets.{law, owed_owable}

-- figures at the front of a new array of m places
pub padded : (m n : ℕ) (zs : List ℤ) → length zs ≡ n → zs ++ drop n (replicate m (pos 0)) ≡ zs ++ replicate (m - length zs) (pos 0)
padded m n zs e = ap (λ l. zs ++ l) (rw e (drop-replicate n m (pos 0)))

pub report_is : (a sums : List ℤ) (v : ℤ) (owed : List ℕ) (q : ℕ) (zs : List ℤ) (rates : List ℕ) → a ≡ zs ++ replicate (16 - length zs) (pos 0) → v ≡ value_of sums rates → owed ≡ owed_of (fund_of sums rates) sums rates → q ≡ requirement_of owed rates →
    ◌≡◌ {A = AccountReport} (record { class_figures = a; sums = sums; value = v; owed = owed; requirement = q }) (report_of zs sums rates)
report_is a sums v owed q zs rates e1 e2 e3 e4 = rw (e1, e2, e4, e3)

-- accepted sums are within the limits of the offset, at the sheet's rates
pub limits_on : (sheet : Sheet) (name : Name) (figures sums : List ℤ) (rates : List ℕ) → rates ≡ sheet.rates.by_number → Ok sums ≡ sums_of name sheet.classes.now figures → Limits sums rates
limits_on sheet name figures sums rates e h =
    subst (Limits sums) (sym e) (sums_limits name sheet.classes.now figures sums sheet.rates.by_number (sym h) sheet.rates.most sheet.whole.classes_fit)

-- what a report of the rule comes from
module _ (m : Meaning) (sheet : Sheet) (name : Name) (b : Basis) (longs shorts : List ℕ) (report : AccountReport) (e : account_report m name b sheet.rates.by_number sheet.classes.now sheet.series.now longs shorts ≡ Ok report) where
  report_from : (figures : List ℤ) × (sums : List ℤ) × (sums_of name sheet.classes.now figures ≡ Ok sums) × (report_of figures sums sheet.rates.by_number ≡ report)
  report_from =
      let counts = margined_counts b longs shorts in
      let t = after_ok (tally_of m name b sheet.classes.now sheet.series.now counts) (λ t. Ok (report_of t.figures t.sums sheet.rates.by_number)) report e in
      let f = after_ok (figures_of m name b sheet.series.now counts sheet.classes.now) (λ figures. and_then (sums_of name sheet.classes.now figures) (λ sums. Ok (tally figures sums))) t.0 t.1 in
      let s = after_ok (sums_of name sheet.classes.now f.0) (λ sums. Ok (tally f.0 sums)) t.0 f.2 in
      let same : tally f.0 s.0 ≡ t.0 = cc in
      let made : report_of t.0.figures t.0.sums sheet.rates.by_number ≡ report = cc in
      (f.0, s.0, s.1, rw (← same) at made)

  pub report_lawful : Law report.sums sheet.rates.by_number report.owed report.requirement
  report_lawful =
      let r = report_from in
      rw (← r.3) (law r.1 sheet.rates.by_number (limits_on sheet name r.0 r.1 sheet.rates.by_number refl (sym r.2)).rated)

  pub report_owable : Owable report.owed
  report_owable =
      let r = report_from in
      rw (← r.3) (owed_owable _ r.1 sheet.rates.by_number (limits_on sheet name r.0 r.1 sheet.rates.by_number refl (sym r.2)).debits)

-- the plain report of any account keeps the law, whether its figures are within their limits or not
pub plain_lawful : (m : Meaning) (b : Basis) (rates : List ℕ) (classes : List ClassRow) (rows : List Series) (longs shorts : List ℕ) → All (λ k. IsTrue (class_fits rates k)) classes →
    let r = plain_report m b rates classes rows longs shorts in Law r.sums rates r.owed r.requirement
plain_lawful m b rates classes rows longs shorts fit =
    let figures = map (class_plain m b rows (margined_counts b longs shorts)) classes in
    law (all_sums classes figures) rates (rated_sums classes figures rates fit)
