-- The whole rule for one account.
use Rattle.std.specs.Prelude.{ℕ, ◌-◌, List, ◌++◌, length, replicate, ℤ, pos, Ok, Result}
use Rattle.terms.specs.declared.names.Name.{Name}
use Rattle.terms.specs.declared.words.Basis.{Basis}
use Rattle.terms.specs.declared.faults.Fault.{Fault}
use Rattle.sheet.specs.declared.rows.ClassRow.{ClassRow}
use Rattle.sheet.specs.declared.rows.Series.{Series}
use Rattle.charge.specs.Meanings.{Meaning}
use Rattle.account.specs.declared.rule.AccountReport.{AccountReport}
use Rattle.account.specs.Outcomes.{and_then}
use Rattle.account.specs.Pieces.{margined_counts}
use Rattle.account.specs.Figures.{figures_of}
use Rattle.account.specs.Sums.{sums_of, value_of}
use Rattle.account.specs.Offset.{fund_of, owed_of, requirement_of}

-- A report that nothing is written in.
abbrev pub blank_report : AccountReport
blank_report = record { class_figures = replicate 16 (pos 0); sums = replicate 5 (pos 0); value = pos 0; owed = replicate 5 0; requirement = 0 }

-- The report of given class figures and currency sums; the places beyond the last class are 0.
abbrev pub report_of : List ℤ → List ℤ → List ℕ → AccountReport
report_of figures sums rates = record {
  class_figures = figures ++ replicate (16 - length figures) (pos 0);
  sums = sums;
  value = value_of sums rates;
  owed = owed_of (fund_of sums rates) sums rates;
  requirement = requirement_of (owed_of (fund_of sums rates) sums rates) rates;
}

-- Class figures and currency sums together.
pub record Tally : Type 0 where
  pub figures : List ℤ
  pub sums : List ℤ

abbrev pub tally : List ℤ → List ℤ → Tally
tally figures sums = record { figures = figures; sums = sums }

-- The class figures come first, and are all formed before they are added up by currency.
abbrev pub tally_of : Meaning → Name → Basis → List ClassRow → List Series → List ℤ → Result Tally Fault
tally_of m name b classes rows counts =
    and_then (figures_of m name b rows counts classes) (λ figures. and_then (sums_of name classes figures) (λ sums. Ok (tally figures sums)))

-- The report of an account: its counts are margined, then tallied, then offset.
abbrev pub account_report : Meaning → Name → Basis → List ℕ → List ClassRow → List Series → List ℕ → List ℕ → Result AccountReport Fault
account_report m name b rates classes rows longs shorts =
    and_then (tally_of m name b classes rows (margined_counts b longs shorts)) (λ t. Ok (report_of t.figures t.sums rates))
