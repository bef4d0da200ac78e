-- What a day comes to, from how its two readings ended and what the close answered.
use Rattle.std.proofs.Common.{◌≡◌, ℕ, List, Option, None, Some, IfSome, Ok, Err, Result, refl, ap}
use Rattle.std.proofs.lemmas.Result.{err_from_is_err_and}
use Rattle.std.specs.Result.{IsErrAnd}
use Rattle.terms.specs.declared.faults.Fault.{Fault}
use Rattle.account.specs.Outcomes.{and_then}
use Rattle.charge.specs.Meanings.{prime_meaning}
use Rattle.lines.specs.declared.reader.Reader.{Reader}
use Rattle.stream.specs.declared.reading.Stop.{Stop}
use Rattle.stream.specs.declared.reading.Stop.TheVariants.{Refused, Unread, Unwritten}
use Rattle.desk.specs.Dealings.{Dealing, deals}
use Rattle.desk.specs.Listings.{Writing, writes}
use Rattle.collateral.specs.Requirements.{Owes}
use Rattle.desk.specs.Reports.{statements}
use Rattle.desk.specs.Runs.{Ran, beginning, with_input, with_sheet}
use Rattle.closing.specs.Days.{Figures, Margined, MarginedInput, blank, closed, opening, no_sheet, no_book, margined}
use Rattle.closing.specs.declared.days.Day.{Day}

-- an error that is handed up
pub handed : (known : Option (List ℕ)) (answer : Result Day Stop) (stop : Stop) → IsErrAnd answer (λ e. e ≡ stop) → MarginedInput known (Err stop) → MarginedInput known answer
handed known answer stop err m =
    let p = err_from_is_err_and answer err in
    rw (p.1, p.2) m

-- the sheet's lines are refused
pub sheet_refused : (known at : Option (List ℕ)) (r : Reader) (w : Writing) (stop : Stop) → Ran writes with_sheet known beginning blank (Err stop) at r w → MarginedInput known (Err stop)
sheet_refused None at r w stop ran = tt
sheet_refused (Some xs) at r w (Refused f) (ys, rest, run) = no_sheet f w ys r run refl
sheet_refused (Some xs) at r w Unread ran = tt
sheet_refused (Some xs) at r w Unwritten ran = tt

-- the book's lines are refused
pub book_refused : (known at next : Option (List ℕ)) (r t : Reader) (w : Writing) (d : Dealing) (stop : Stop) → Ran writes with_sheet known beginning blank (Ok tt) at r w
    → Ran deals with_input at r (opening w.draft) (Err stop) next t d → MarginedInput known (Err stop)
book_refused None at next r t w d stop sheet book = tt
book_refused (Some xs) at next r t w d stop (ys, rest, run) book = by stop (rw rest at book)
  where
    by : (stop : Stop) → Ran deals with_input (Some ys) r (opening w.draft) (Err stop) next t d → MarginedInput (Some xs) (Err stop)
    by (Refused f) (zs, end, dealt) = no_book w ys r f d run (zs, t, dealt) refl
    by Unread book = tt
    by Unwritten book = tt

-- all lines are taken, and the close answers
pub is_closed : (known at next : Option (List ℕ)) (r t : Reader) (w : Writing) (d : Dealing) (answer : Result Figures Fault) → Ran writes with_sheet known beginning blank (Ok tt) at r w
    → Ran deals with_input at r (opening w.draft) (Ok tt) next t d → answer ≡ closed w.draft d → IfSome known (λ xs. Margined xs answer)
is_closed None at next r t w d answer sheet book e = tt
is_closed (Some xs) at next r t w d answer (ys, rest, run) book e = by (rw rest at book)
  where
    by : Ran deals with_input (Some ys) r (opening w.draft) (Ok tt) next t d → Margined xs answer
    by (zs, end, dealt) = margined w ys r d run (zs, t, dealt) e

-- the close refuses an account
pub close_refused : (known : Option (List ℕ)) (answer : Result Day Stop) (f : Fault) → IsErrAnd answer (λ e. e ≡ Refused f) → IfSome known (λ xs. Margined xs (Err f)) → MarginedInput known answer
close_refused known answer f err m = handed known answer (Refused f) err m

-- what the close answers, by the statements
pub refused_is : (w : Writing) (d : Dealing) (f : Fault) → Err f ≡ statements prime_meaning d.book → Err f ≡ closed w.draft d
refused_is w d f e = ap (λ r. and_then r (λ xs. Ok (record { rates = w.draft.rates; owed = xs; records = d.records }))) e

pub answered_is : (w : Writing) (d : Dealing) (rates : List ℕ) (xs : List Owes) → rates ≡ w.draft.rates → Ok xs ≡ statements prime_meaning d.book
    → Ok (record { rates = rates; owed = xs; records = d.records }) ≡ closed w.draft d
answered_is w d rates xs same e = rw same (ap (λ r. and_then r (λ xs. Ok (record { rates = w.draft.rates; owed = xs; records = d.records }))) e)
