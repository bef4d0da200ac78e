use Rattle.std.proofs.Common.{sym, ap, ◌∙◌, rules}
use Rattle.sheet.specs.declared.rows.ClassRow.{ClassRow}
use Rattle.sheet.specs.Given.{Terms}
use Rattle.sheet.specs.Plain.{plain}
use Rattle.account.specs.Figures.{handed_up}
use Rattle.account.proofs.Parts.{each_of_part, small_part, small_fits_class}
use Rattle.account.proofs.Charges.{figure_moved, handed}
use Rattle.account.proofs.figures.MarginedCounts.figure_at.Goals as goal

pub invariant_of-position : goal.invariant_of-position
invariant_of-position g c =
    let self = c.args.self.now in
    let s = c.span-span.ensures.value in
    let rows = s.series ∙ sym (ap (λ (t : Terms). t.rows) c.class-class.ensures.value) in
    record {
      fits_class = small_fits_class _ _
          (each_of_part self.counts.now self.account.sheet.series.now c.class-class.result.series.now c.span-span.result.from c.span-span.result.to s.ordered s.within self.each rows)
          (small_part self.counts.now c.span-span.result.from c.span-span.result.to self.small);
    }

pub returns-clause-answer : goal.returns-clause-answer
returns-clause-answer g c =
    let self = c.args.self.now in
    let name = self.account.name in
    let code = c.class_row.result.code in
    let coded = ap (λ (r : ClassRow). r.code) c.class_row.ensures.value in
    handed name code c.position_figure.result c.map_err.result c.map_err.ensures.cases (λ e f h. search rules)
    ∙ ap (handed_up name code) c.position_figure.ensures.answer
    ∙ figure_moved name code (g.C.Charge.meaning c.args.charge.now) self.account.basis (plain c.class-class.result) _ _ _ _ coded c.class-class.ensures.value (c.span-span.ensures.value.counts self.counts.now self.each)
