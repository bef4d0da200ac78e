-- On a sheet each account's report keeps the law of the offset, and each pool the law of the pool.
use Rattle.std.proofs.Common.{◌≡◌, ℕ, List, pos, ◌+ℤ◌, ◌≤ℤ◌, Ok, Option, refl, sym, subst}
use Rattle.std.specs.List.{All}
use Rattle.std.specs.Prelude.{IsTrue}
use Rattle.terms.specs.declared.words.Leg.TheVariants.{Long, Short}
use Rattle.terms.specs.declared.words.Side.{Side}
use Rattle.sheet.specs.declared.sheets.Sheet.{Sheet}
use Rattle.sheet.specs.Limits.{class_fits}
use Rattle.charge.specs.Meanings.{Meaning, Lawful}
use Rattle.account.specs.declared.rule.AccountReport.{AccountReport}
use Rattle.account.proofs.Outcomes.{after_ok}
use Rattle.account.proofs.Reports.{plain_lawful}
use Rattle.account.proofs.Weighed.{report_plain}
use Rattle.book.specs.declared.rows.AccountRow.{AccountRow}
use Rattle.book.specs.declared.pooling.PoolFigures.{PoolFigures}
use Rattle.book.specs.Law.{Owes}
use Rattle.book.specs.Pool.{pool}
use Rattle.book.specs.Reads.{counts_of}
use Rattle.book.specs.Reports.{named_report, named_row, own_report, row_report}
use Rattle.book.specs.State.{State}
use Rattle.book.proofs.Pools.{pool_law}

-- the book's rates, classes and series are the sheet's
pub record On (sheet : Sheet) (s : State) : Type 0 where
  pub rates : s.rates ≡ sheet.rates.by_number
  pub classes : s.classes ≡ sheet.classes.now
  pub series : s.series ≡ sheet.series.now

module _ (sheet : Sheet) (s : State) (h : On sheet s) (m : Meaning) where
  -- every account keeps the law of the offset by its own figures, and where its report answers, these are its figures
  pub own_lawful : (a : AccountRow) → Owes s.rates (own_report m s a)
  own_lawful a =
      let fit : All (λ k. IsTrue (class_fits s.rates k)) s.classes =
      subst (λ rates. All (λ k. IsTrue (class_fits rates k)) s.classes) (sym h.rates) (subst (λ rows. All (λ k. IsTrue (class_fits sheet.rates.by_number k)) rows) (sym h.classes) sheet.whole.classes_fit) in
      record { value = refl; law = plain_lawful m a.basis s.rates s.classes s.series (counts_of s a.slot Long) (counts_of s a.slot Short) fit }

  module _ (a : AccountRow) (r : AccountReport) (e : row_report m s a ≡ Ok r) where
    pub row_plain : r ≡ own_report m s a
    row_plain = report_plain m a.name a.basis s.rates s.classes s.series (counts_of s a.slot Long) (counts_of s a.slot Short) r e

    row_lawful : Owes s.rates r
    row_lawful = subst (Owes s.rates) (sym row_plain) (own_lawful a)

    row_covered : r.value ≤ℤ pos r.requirement
    row_covered = subst (λ v. v ≤ℤ pos r.requirement) (sym row_lawful.value) row_lawful.law.covered

  pub named_lawful : (x : List ℕ) (r : AccountReport) → named_report m s x ≡ Ok r → Owes s.rates r
  named_lawful x r e = let f = after_ok (named_row s x) (row_report m s) r e in row_lawful f.0 r f.2

  pub pooled_lawful : Lawful m → (o : Option Side) (p : PoolFigures) → pool m s o ≡ Ok p → p.value ≤ℤ (pos p.summed +ℤ p.allowance)
  pooled_lawful law = pool_law m law s row_covered
