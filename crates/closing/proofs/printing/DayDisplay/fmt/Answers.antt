use Rattle.std.proofs.Common.{rules, ap}
use Rattle.closing.specs.Days.{figures}
use Rattle.closing.specs.Report.{call_lines, report, sides, owed_lines}
use Rattle.terms.specs.declared.words.Side.TheVariants.{Client, House}
use Rattle.collateral.specs.Requirements.{owes}
use Rattle.std.proofs.Output.{has_written_append}
use Rattle.closing.proofs.Reported.{account, accounts_from, begins, ends, no_account, prints}
use Rattle.closing.proofs.printing.DayDisplay.fmt.Goals as goal

pub loop-statement-init : goal.loop-statement-init
loop-statement-init g c =
    let day = figures c.args.self.now in
    begins _ _ (report day) _ (ap (λ xs. accounts_from day.rates (sides day) xs 0) c.as_slice-statement-items.ensures.value)

pub loop-statement-preserved : goal.loop-statement-preserved
loop-statement-preserved g c =
    let day = figures c.args.self.now in
    let l = c.loop-statement in
    let a = c.statement-item.result in
    let rows = c.as_slice-statement-items.result.now in
    let next = account day.rates (sides day) rows l.statement-index a c.loop-statement-test.true c.statement-item.is in
    prints _ _ (report day) (accounts_from day.rates (sides day) rows l.statement-index) _ _ _ l.invariant (owed_lines day.rates (owes a)) next (λ plain. search rules)

pub returns-clause-writes : goal.returns-clause-writes
returns-clause-writes g c = λ plain ok.
    let day = figures c.args.self.now in
    let l = c.loop-statement in
    let none = no_account day.rates (sides day) c.as_slice-statement-items.result.now l.statement-index c.loop-statement-test.false in
    ends _ _ (report day) _ _ _ l.invariant (λ now. rw none (has_written_append _ _ (call_lines day Client) c.fmt_calls.new.f (call_lines day House) _ (search rules) (search rules))) plain
