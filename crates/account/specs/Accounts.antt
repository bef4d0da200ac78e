-- The rule's parts, of an account on its sheet.
use Rattle.std.specs.Prelude.{ℕ, List, ℤ, Result}
use Rattle.terms.specs.declared.faults.Fault.{Fault}
use Rattle.sheet.specs.Given.{class_at}
use Rattle.charge.specs.Meanings.{Meaning}
use Rattle.account.specs.declared.accounts.Account.{Account}
use Rattle.account.specs.declared.rule.AccountReport.{AccountReport}
use Rattle.account.specs.Pieces.{margined_counts}
use Rattle.account.specs.Figures.{figure_of, figures_of}
use Rattle.account.specs.Sums.{sums_of}
use Rattle.account.specs.Rule.{Tally, tally_of, account_report}

-- from the margined counts: the figure of the class at a place of the sheet, and the figures of all classes
abbrev pub figure_on : Meaning → Account → List ℤ → ℕ → Result ℤ Fault
figure_on m a counts i = figure_of m a.name a.basis a.sheet.series.now counts (class_at a.sheet.classes.now i)

abbrev pub figures_on : Meaning → Account → List ℤ → Result (List ℤ) Fault
figures_on m a counts = figures_of m a.name a.basis a.sheet.series.now counts a.sheet.classes.now

-- from the class figures: the sums of the five currencies
abbrev pub sums_on : Account → List ℤ → Result (List ℤ) Fault
sums_on a figures = sums_of a.name a.sheet.classes.now figures

-- class figures and currency sums together
abbrev pub tally_on : Meaning → Account → Result Tally Fault
tally_on m a = tally_of m a.name a.basis a.sheet.classes.now a.sheet.series.now (margined_counts a.basis a.longs.now a.shorts.now)

-- The report of an account.
abbrev pub report_on : Meaning → Account → Result AccountReport Fault
report_on m a = account_report m a.name a.basis a.sheet.rates.by_number a.sheet.classes.now a.sheet.series.now a.longs.now a.shorts.now
