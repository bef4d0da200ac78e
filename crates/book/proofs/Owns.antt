-- What an account comes to depends on its own counts alone.
use Rattle.std.proofs.Common.{ap, ◌∙◌}
use Rattle.terms.specs.declared.words.Leg.TheVariants.{Long, Short}
use Rattle.account.specs.Rule.{account_report}
use Rattle.book.specs.Reads.{counts_of}
use Rattle.book.specs.Reports.{OwnAlone}

pub own_alone : OwnAlone
own_alone = record {
  same = λ m s t a b rates classes series name basis counts.
      ap (λ n. account_report m n a.basis s.rates s.classes s.series (counts_of s a.slot Long) (counts_of s a.slot Short)) name
      ∙ ap (λ x. account_report m b.name x s.rates s.classes s.series (counts_of s a.slot Long) (counts_of s a.slot Short)) basis
      ∙ ap (λ x. account_report m b.name b.basis x s.classes s.series (counts_of s a.slot Long) (counts_of s a.slot Short)) rates
      ∙ ap (λ x. account_report m b.name b.basis t.rates x s.series (counts_of s a.slot Long) (counts_of s a.slot Short)) classes
      ∙ ap (λ x. account_report m b.name b.basis t.rates t.classes x (counts_of s a.slot Long) (counts_of s a.slot Short)) series
      ∙ ap (λ x. account_report m b.name b.basis t.rates t.classes t.series x (counts_of s a.slot Short)) (counts Long)
      ∙ ap (λ x. account_report m b.name b.basis t.rates t.classes t.series (counts_of t b.slot Long) x) (counts Short);
}
