use Rattle.sheet.specs.Given.{class_at}
use Rattle.sheet.proofs.Insides.{inside_of, worthy_of}
use Rattle.sheet.proofs.sheets.Sheet.class.Goals as goal

pub invariant_of-result : goal.invariant_of-result
invariant_of-result c =
    let s = c.args.self.now in
    let k = (class_at s.classes.now c.args.i).code in
    let is = c.part-series.ensures.value in
    record {
      inside = inside_of s.series.now c.part-series.result.now k s.whole.series_fit is s.rates.by_number s.classes.now c.args.i c.requires s.whole;
      worths = worthy_of s.series.now c.part-series.result.now k s.whole.series_fit is;
    }
