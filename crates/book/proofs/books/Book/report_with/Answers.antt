-- What the asker holds is what the report leaves in a place.
use Rattle.std.proofs.Common.{Result, refl, w64}
use Rattle.std.proofs.lemmas.Int.{to_z-of_z}
use Rattle.terms.specs.declared.faults.Fault.{Fault}
use Rattle.account.specs.declared.rule.AccountReport.{AccountReport}
use Rattle.book.specs.Reports.{named_report}
use Rattle.book.specs.Uses.{Posting, done}
use Rattle.book.specs.View.{view}
use Rattle.book.specs.declared.questions.ReportOf.{ReportOf}
use Rattle.book.proofs.Tried.{left_by_trial, answered_by_trial}
use Rattle.book.proofs.books.Book.report_with.Goals as goal

pub returns : goal.returns
returns g c =
    let h = rw (to_z-of_z w64 c.args.contracts c.ranges.contracts) at c.trial-answer.ensures.trial in
    let u = Posting c.args.name.now c.args.key c.args.leg c.args.contracts in
    let r : Result AccountReport Fault = named_report (g.C.Charge.meaning c.args.charge.now) (done (view c.args.self.now) u) c.args.name.now in
    let place = λ (a : ReportOf g.row.C.Denot). a.report in
    record {
      answer = answered_by_trial place r c.trial-answer.result h refl refl;
      after = left_by_trial place r h refl;
      book = h.book;
    }
