use Rattle.sheet.specs.View.{view}
use Rattle.desk.proofs.Halves.{first_half, second_half}
use Rattle.desk.proofs.sheet_desk.SheetDesk.add_values.Goals as goal

pub returns-in-FirstArray-clause-valued : goal.returns-in-FirstArray-clause-valued
returns-in-FirstArray-clause-valued c = first_half c.args.values.now (view c.args.self.now.draft) c.in-Some.pending c.in_ok-judge_values.ensures.value c.in-Some.is c.in-FirstArray.is c.begun-array.ensures

pub returns-in_default-section-clause-valued : goal.returns-in_default-section-clause-valued
returns-in_default-section-clause-valued c = second_half c.args.values.now (view c.args.self.now.draft) c.in-Some.pending c.in_ok-judge_values.ensures.value c.in-Some.is c.in_default-section.not-FirstArray c.ended.ensures c.add_series.ensures.after
