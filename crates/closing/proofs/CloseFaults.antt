-- A fault of the close names no line.
use Rattle.std.proofs.Common.{◌≡◌, ℕ, Bool, true, false, cond, nat_le, List, [], ◌∷◌, length, ℤ, None, Ok, Err, Result, IfErr, refl, sym, subst}
use Rattle.terms.specs.declared.faults.Fault.{Fault}
use Rattle.terms.specs.declared.names.Name.{Name}
use Rattle.terms.specs.declared.codes.Code.{Code}
use Rattle.terms.specs.declared.words.Basis.{Basis}
use Rattle.terms.specs.declared.words.Label.{Label}
use Rattle.sheet.specs.declared.rows.ClassRow.{ClassRow}
use Rattle.sheet.specs.declared.rows.Series.{Series}
use Rattle.sheet.specs.State.{State as Draft}
use Rattle.sheet.specs.Given.{Terms, given}
use Rattle.sheet.specs.Rows.{beside}
use Rattle.terms.specs.declared.words.Currency.{Currency}
use Rattle.terms.specs.declared.words.Leg.TheVariants.{Long, Short}
use Rattle.book.specs.Reads.{counts_of}
use Rattle.charge.specs.Answers.{limited}
use Rattle.charge.specs.Meanings.{Meaning, prime_meaning}
use Rattle.charge.specs.Positions.{fits}
use Rattle.account.specs.Rule.{tally_of}
use Rattle.account.specs.Figures.{amounts, figure_of, handed_up, position_figure}
use Rattle.account.specs.Outcomes.{and_then, each, onto, plus, beyond}
use Rattle.account.specs.Pieces.{margined_counts, pieces, marks}
use Rattle.account.specs.Sums.{currency_sum, currencies, sum_of}
use Rattle.book.specs.declared.rows.AccountRow.{AccountRow}
use Rattle.book.specs.State.{State}
use Rattle.desk.specs.Dealings.{Dealing}
use Rattle.book.specs.Reports.{in_opening_order, row_report}
use Rattle.desk.specs.Reports.{statement_of_each}
use Rattle.closing.specs.Days.{closed}

-- a fault, if there is one, names no line
record NoLine {X : Type 0} (r : Result X Fault) : Type 0 where
  none : IfErr r (λ f. f.place.line ≡ None)

fine : {X : Type 0} {x : X} → NoLine (Ok x)
fine = record { none = tt }

faulty : {X : Type 0} {f : Fault} → f.place.line ≡ None → NoLine {X = X} (Err f)
faulty e = record { none = e }

both : {X : Type 0} (b : Bool) {r s : Result X Fault} → NoLine r → NoLine s → NoLine (cond b r s)
both true h k = h
both false h k = k

next : {X Y : Type 0} {r : Result X Fault} {k : X → Result Y Fault} → NoLine r → ((x : X) → NoLine (k x)) → NoLine (and_then r k)
next {r = Ok x} h all = all x
next {r = Err f} h all = faulty h.none

added : (z : ℤ) {r : Result ℤ Fault} → NoLine r → NoLine (plus z r)
added z {r = Ok x} h = fine
added z {r = Err f} h = faulty h.none

behind : (zs : List ℤ) {r : Result (List ℤ) Fault} → NoLine r → NoLine (onto zs r)
behind zs {r = Ok x} h = fine
behind zs {r = Err f} h = faulty h.none

of_each : {A : Type 0} {g : A → Result ℤ Fault} → ((a : A) → NoLine (g a)) → (xs : List A) → NoLine (each g xs)
of_each all [] = fine
of_each {g = g} all (x ∷ xs) = next (all x) (λ z. behind (z ∷ []) (of_each {g = g} all xs))

up : (name : Name) (code : Code) {r : Result ℤ Fault} → NoLine r → NoLine (handed_up name code r)
up name code {r = Ok z} h = fine
up name code {r = Err f} h = faulty h.none

within : (n : ℕ) (l : Label) → NoLine (limited n l)
unfolding limited
within n l = both (nat_le n 100000000000) fine (faulty refl)

charged : (m : Meaning) (t : Terms) (ps : List (List ℤ)) → NoLine (amounts m t ps)
charged m t [] = fine
charged m t (p ∷ ps) = next (both (fits (length t.rows) p) (within (m.charged t p) (m.blamed t p)) (faulty refl)) (λ x. added x (charged m t ps))

figured : (m : Meaning) (b : Basis) (t : Terms) (p : List ℤ) → NoLine (position_figure m b t p)
figured m b t p = both (beyond (marks t.rows (pieces b p))) (faulty refl) (added (marks t.rows (pieces b p)) (charged m t (pieces b p)))

summed : (name : Name) (classes : List ClassRow) (figures : List ℤ) (c : Currency) → NoLine (currency_sum name classes figures c)
summed name classes figures c = both (beyond (sum_of c classes figures)) (faulty refl) fine

tallied : (m : Meaning) (name : Name) (b : Basis) (classes : List ClassRow) (rows : List Series) (counts : List ℤ) → NoLine (tally_of m name b classes rows counts)
tallied m name b classes rows counts =
    next (of_each {g = figure_of m name b rows counts} (λ row. up name row.code (figured m b (given row rows) (beside row.code rows counts))) classes)
    (λ figures. next (of_each {g = currency_sum name classes figures} (summed name classes figures) currencies) (λ sums. fine))

module _ (m : Meaning) (s : State) where
  reported : (a : AccountRow) → NoLine (row_report m s a)
  reported a = next (tallied m a.name a.basis s.classes s.series (margined_counts a.basis (counts_of s a.slot Long) (counts_of s a.slot Short))) (λ t. fine)

  all_stated : (rows : List AccountRow) → NoLine (statement_of_each m s rows)
  all_stated [] = fine
  all_stated (a ∷ rows) = next (next (reported a) (λ r. fine)) (λ x. next (all_stated rows) (λ xs. fine))

close_no_line : (s : Draft) (d : Dealing) → NoLine (closed s d)
close_no_line s d = next (all_stated prime_meaning d.book (in_opening_order d.book.accounts)) (λ xs. fine)

pub at_no_line : (s : Draft) (d : Dealing) (f : Fault) → Err f ≡ closed s d → f.place.line ≡ None
at_no_line s d f e = (subst (λ r. NoLine r) (sym e) (close_no_line s d)).none
