-- What an account comes to by the rules alone, with no limit on any figure.
use Rattle.std.specs.Prelude.{ℕ, ◌+◌, List, [], ◌∷◌, map, ℤ, pos, ◌+ℤ◌}
use Rattle.terms.specs.declared.words.Basis.{Basis}
use Rattle.sheet.specs.declared.rows.ClassRow.{ClassRow}
use Rattle.sheet.specs.declared.rows.Series.{Series}
use Rattle.sheet.specs.Given.{Terms, given}
use Rattle.sheet.specs.Rows.{beside}
use Rattle.charge.specs.Meanings.{Meaning}
use Rattle.account.specs.declared.rule.AccountReport.{AccountReport}
use Rattle.account.specs.Pieces.{margined_counts, pieces, marks}
use Rattle.account.specs.Rule.{report_of}
use Rattle.account.specs.Sums.{currencies, sum_of}

-- what pieces are charged one by one, added up
abbrev pub charged_of : Meaning → Terms → List (List ℤ) → ℕ
charged_of m t [] = 0
charged_of m t (p ∷ ps) = m.charged t p + charged_of m t ps

-- the mark of the pieces and their charges
abbrev pub plain_figure : Meaning → Basis → Terms → List ℤ → ℤ
plain_figure m b t p = marks t.rows (pieces b p) +ℤ pos (charged_of m t (pieces b p))

-- the figure of a class, from the margined counts
abbrev pub class_plain : Meaning → Basis → List Series → List ℤ → ClassRow → ℤ
class_plain m b rows counts k = plain_figure m b (given k rows) (beside k.code rows counts)

-- the sums of all currencies
abbrev pub all_sums : List ClassRow → List ℤ → List ℤ
all_sums classes figures = map (λ c. sum_of c classes figures) currencies

-- the class figures and their sums, offset
abbrev pub plain_report : Meaning → Basis → List ℕ → List ClassRow → List Series → List ℕ → List ℕ → AccountReport
plain_report m b rates classes rows longs shorts =
    report_of (map (class_plain m b rows (margined_counts b longs shorts)) classes) (all_sums classes (map (class_plain m b rows (margined_counts b longs shorts)) classes)) rates
