-- The fault of a line stands whatever follows.
use Rattle.std.proofs.Common.{◌≡◌, ℕ, ◌+◌, ◌-◌, List, None, Some, Err, Result, refl, sym, ap, ◌∙◌, arith}
use Rattle.terms.specs.declared.faults.Fault.{Fault}
use Rattle.lines.specs.Turns.{counted}
use Rattle.desk.specs.Dealings.{deals}
use Rattle.desk.specs.Listings.{writes}
use Rattle.desk.specs.Runs.{beginning, first_lines, with_input, with_sheet}
use Rattle.desk.proofs.Heads.{fault_line, goes_up, input_by_line, runs_by_lines, sheet_by_line}
use Rattle.closing.proofs.CloseFaults.{at_no_line}
use Rattle.closing.specs.Days.{FaultOfLine, Figures, Margined, blank, opening, no_sheet, no_book, margined}

module _ (n : ℕ) (f : Fault) (xs ys : List ℕ) (at : f.place.line ≡ Some n) (same : first_lines n xs ≡ first_lines n ys) where
  by : (r : Result Figures Fault) → r ≡ Err f → Margined xs r → Margined ys (Err f)
  by r is (no_sheet g w zs t sheet e) =
      let fault : g ≡ f = cc in
      let up = goes_up writes with_sheet sheet_by_line xs beginning blank (Some g) zs t w sheet (omega arith) in
      let line = fault_line writes with_sheet sheet_by_line xs beginning blank (Some g) zs t w sheet f (ap Some fault) in
      let here : Some n ≡ Some (counted t.line) = sym at ∙ line in
      let number : n ≡ counted t.line = cc in
      let also = runs_by_lines writes with_sheet sheet_by_line xs beginning blank (Some g) zs t w sheet (omega arith) n ys (omega (arith, number, up.1)) same in
      no_sheet g w also.rest t also.run (ap Err (sym fault))
  by r is (no_book w zs t g d sheet (us, u, book) e) =
      let fault : g ≡ f = cc in
      let up = goes_up writes with_sheet sheet_by_line xs beginning blank None zs t w sheet (omega arith) in
      let up2 = goes_up deals with_input input_by_line zs t (opening w.draft) (Some g) us u d book up.1 in
      let line = fault_line deals with_input input_by_line zs t (opening w.draft) (Some g) us u d book f (ap Some fault) in
      let here : Some n ≡ Some (counted u.line) = sym at ∙ line in
      let number : n ≡ counted u.line = cc in
      let also = runs_by_lines writes with_sheet sheet_by_line xs beginning blank None zs t w sheet (omega arith) n ys (omega (arith, number, up2)) same in
      let rest = runs_by_lines deals with_input input_by_line zs t (opening w.draft) (Some g) us u d book up.1 (0 + n - t.line) also.rest (omega (arith, number, up2)) (also.lines refl) in
      no_book w also.rest t g d also.run (rest.rest, u, rest.run) (ap Err (sym fault))
  by r is (margined w zs t d sheet book e) =
      let nothing = at_no_line w.draft d f (sym is ∙ e) in
      let none : None ≡ Some n = sym nothing ∙ at in
      absurd cc

pub fault_of_line : FaultOfLine
fault_of_line n f xs ys at same m = by n f xs ys at same (Err f) refl m
