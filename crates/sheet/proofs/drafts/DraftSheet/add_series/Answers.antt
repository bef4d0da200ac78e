use Rattle.std.proofs.Common.{◌≡◌, true, Some, refl}
use Rattle.std.proofs.lemmas.Result.{err_from_is_err_and}
use Rattle.register.specs.Held.{held, lent}
use Rattle.sheet.specs.Limits.{series_of, values_fit}
use Rattle.sheet.specs.View.{view}
use Rattle.sheet.proofs.Made.{series_row_fits}
use Rattle.sheet.proofs.Steps.{passed, key_passed, line_stopped, listing_beyond, listing_rest, listing_entered}
use Rattle.sheet.proofs.Whole.{whole_with_series}
use Rattle.sheet.proofs.drafts.DraftSheet.add_series.Goals as goal

pub returns-in_err-judge_amounts : goal.returns-in_err-judge_amounts
returns-in_err-judge_amounts c =
    let made : Some c.in_ok-row.row ≡ series_of c.args.listing c.args.array = c.in_ok-row.ensures.value in
    let p = err_from_is_err_and c.from_residual-in_err-judge_amounts.result c.from_residual-in_err-judge_amounts.ensures.1 in
    record { after = rw (p.1, p.2) (record { fault = listing_beyond (view c.args.self.now) c.args.listing c.args.array c.in_ok-row.row made _ c.in_err-judge_amounts.ensures.value; state = refl }) }

pub returns-in_err-judge_key : goal.returns-in_err-judge_key
returns-in_err-judge_key c =
    let s = view c.args.self.now in
    let made : Some c.in_ok-row.row ≡ series_of c.args.listing c.args.array = c.in_ok-row.ensures.value in
    let vals : values_fit c.args.array ≡ true = passed _ _ c.in_ok-judge_amounts.ensures.value in
    let p = err_from_is_err_and c.from_residual-in_err-judge_key.result c.from_residual-in_err-judge_key.ensures.1 in
    record { after = rw (p.1, p.2) (record { fault = listing_rest s c.args.listing c.args.array c.in_ok-row.row made vals _ (line_stopped s c.args.listing c.args.array c.in_ok-row.row made _ c.in_err-judge_key.ensures.value); state = refl }) }

pub invariant_of-self : goal.invariant_of-self
invariant_of-self c =
    let s = c.args.self.now in
    let made : Some c.in_ok-row.row ≡ series_of c.args.listing c.args.array = c.in_ok-row.ensures.value in
    let vals : values_fit c.args.array ≡ true = passed _ _ c.in_ok-judge_amounts.ensures.value in
    record { whole = whole_with_series s.whole c.insert.ensures.entry (series_row_fits c.args.listing c.args.array c.in_ok-row.row made vals) (key_passed (view s) c.in_ok-row.row.key c.in_ok-judge_key.ensures.value).1 }

pub returns : goal.returns
returns c =
    let s = c.args.self.now in
    let made : Some c.in_ok-row.row ≡ series_of c.args.listing c.args.array = c.in_ok-row.ensures.value in
    let vals : values_fit c.args.array ≡ true = passed _ _ c.in_ok-judge_amounts.ensures.value in
    record { after = rw c.told.ensures.value (listing_entered c.args.listing c.args.array c.in_ok-row.row made vals s.rates.by_number (held s.classes) _ (held s.series) (lent s.series) _ _ c.in_ok-judge_key.ensures.value _ c.insert.ensures.entry) }
