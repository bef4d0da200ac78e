use Rattle.std.proofs.Common.{rules, ◌≡◌, Err}
use Rattle.account.specs.Outcomes.{filled}
use Rattle.book.specs.Events.{asks, reports}
use Rattle.book.specs.Reports.{named_report}
use Rattle.book.specs.View.{view}
use Rattle.book.proofs.books.Book.report.Goals as goal

pub returns-in_err-name-clause-step : goal.returns-in_err-name-clause-step
returns-in_err-name-clause-step g c =
    let e : filled c.from_residual.result c.args.report.now ≡ named_report (g.C.Charge.meaning c.args.charge.now) (view c.args.self.now) c.args.name.now = search rules in
    asks (reports (g.met.C.Charge.lawful c.args.charge.now) e)

pub returns-in_default-clause-step : goal.returns-in_default-clause-step
returns-in_default-clause-step g c =
    let e : Err c.unknown.result ≡ named_report (g.C.Charge.meaning c.args.charge.now) (view c.args.self.now) c.args.name.now = search rules in
    asks (reports (g.met.C.Charge.lawful c.args.charge.now) e)

pub returns-clause-step : goal.returns-clause-step
returns-clause-step g c =
    let e : filled c.margin_account.result c.margin_account.new.report ≡ named_report (g.C.Charge.meaning c.args.charge.now) (view c.args.self.now) c.args.name.now = search rules in
    asks (reports (g.met.C.Charge.lawful c.args.charge.now) e)
