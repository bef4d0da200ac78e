-- Runs, line by line: what is read so far leads from where the reading began to where it stands.
use Rattle.std.proofs.Common.{◌≡◌, ◌≢◌, ℕ, List, [], Option, Some, None, Ok, Err, Result, IfSome, MatchOption, ◌∷◌, refl, ap, ◌∙◌}
use Rattle.lines.specs.declared.reader.Reader.{Reader}
use Rattle.lines.specs.declared.reader.Section.{Section}
use Rattle.lines.specs.declared.reader.Section.TheVariants.{Sheet, FirstArray, SecondArray, Book}
use Rattle.lines.specs.declared.record.Record.{Record}
use Rattle.stream.specs.Lines.{first_line}
use Rattle.stream.specs.declared.reading.Stop.{Stop}
use Rattle.stream.specs.declared.reading.Stop.TheVariants.{Refused, Unread}
use Rattle.std.specs.Result.{IsErrAnd}
use Rattle.terms.specs.declared.faults.Fault.{Fault}
use Rattle.desk.specs.Takings.{Takes}
use Rattle.desk.specs.Runs.{Run, Ran, behind, early, verdict, with_input, with_sheet, sheet_over, ended, refused_line, taken_line}

-- the verdict of what was refused, and of what could not be read
pub told_refused : (answer : Result Unit Stop) (f : Fault) → IsErrAnd answer (λ stop. stop ≡ Refused f) → verdict answer ≡ Some (Some f)
told_refused (Ok u) f h = absurd h
told_refused (Err stop) f h = ap (λ e. verdict (Err e)) h

pub told_unread : (answer : Result Unit Stop) (e : Stop) → IsErrAnd answer (λ stop. stop ≡ e) → e ≡ Unread → verdict answer ≡ None
told_unread (Ok u) e h unread = absurd h
told_unread (Err stop) e h unread = ap (λ e. verdict (Err e)) (h ∙ unread)

module _ {D : Type 0} (judged : D → Section → Record → Option Fault → D → Type 0) (over : Reader → List ℕ → Option (Option Fault)) where
  -- a run from the second place is one from the first
  abbrev pub To : Option (List ℕ) → Reader → D → Option (List ℕ) → Reader → D → Type 0
  To left r d at s e =
      IfSome left (λ xs. MatchOption at ⊥ (λ ys. (o : Option Fault) (zs : List ℕ) (t : Reader) (g : D) → Run judged over ys s e o zs t g → Run judged over xs r d o zs t g))

  pub record Leads (left : Option (List ℕ)) (r : Reader) (d : D) (at : Option (List ℕ)) (s : Reader) (e : D) : Type 0 where
    pub to : To left r d at s e

  -- where the reading begins
  here-to : (left : Option (List ℕ)) (r : Reader) (d : D) → To left r d left r d
  here-to None r d = tt
  here-to (Some xs) r d = λ o zs t g run. run

  pub here : (left : Option (List ℕ)) (r : Reader) (d : D) → Leads left r d left r d
  here left r d = record { to = here-to left r d }

  module _ {s t : Reader} {e g : D} {line : List ℕ} (goes : (xs : List ℕ) → xs ≢ [] → over s xs ≡ None) where
    -- one more line is taken
    on-to : (left at next : Option (List ℕ)) (r : Reader) (d : D) → To left r d at s e → IfSome at (λ xs. (xs ≢ []) × (line ≡ first_line xs))
        → IfSome at (λ xs. next ≡ Some (behind xs)) → Takes judged line s e (Ok tt) t g → To left r d next t g
    on-to None at next r d h hands leaves takes = tt
    on-to (Some xs) None next r d h hands leaves takes = absurd h
    on-to (Some xs) (Some ys) next r d h hands leaves takes =
        rw leaves (λ o zs u f run. h o zs u f (taken_line ys s e t g o zs u f (goes ys hands.0) (rw hands.1 at takes) run))

    -- a line is refused
    stopped-to : (left at next : Option (List ℕ)) (r : Reader) (d : D) → To left r d at s e → IfSome at (λ xs. (xs ≢ []) × (line ≡ first_line xs))
        → IfSome at (λ xs. next ≡ Some (behind xs)) → (f : Fault) → Takes judged line s e (Err f) t g
        → IfSome left (λ xs. (ys : List ℕ) × (next ≡ Some ys) × Run judged over xs r d (Some f) ys t g)
    stopped-to None at next r d h hands leaves f takes = tt
    stopped-to (Some xs) None next r d h hands leaves f takes = absurd h
    stopped-to (Some xs) (Some ys) next r d h hands leaves f takes =
        (behind ys, leaves, h (Some f) (behind ys) t g (refused_line ys s e f t g (goes ys hands.0) (rw hands.1 at takes)))

    pub on : {left at next : Option (List ℕ)} {r : Reader} {d : D} → Leads left r d at s e → IfSome at (λ xs. (xs ≢ []) × (line ≡ first_line xs))
        → IfSome at (λ xs. next ≡ Some (behind xs)) → Takes judged line s e (Ok tt) t g → Leads left r d next t g
    on {left} {at} {next} {r} {d} h hands leaves takes = record { to = on-to left at next r d h.to hands leaves takes }

    pub stopped : {left at : Option (List ℕ)} {r : Reader} {d : D} (next : Option (List ℕ)) → Leads left r d at s e → IfSome at (λ xs. (xs ≢ []) × (line ≡ first_line xs))
        → IfSome at (λ xs. next ≡ Some (behind xs)) → (f : Fault) → Takes judged line s e (Err f) t g
        → (answer : Result Unit Stop) → IsErrAnd answer (λ stop. stop ≡ Refused f) → Ran judged over left r d answer next t g
    stopped {left} {at} {r} {d} next h hands leaves f takes answer told = rw (told_refused answer f told) (stopped-to left at next r d h.to hands leaves f takes)

  -- nothing is said of an input that could not be read
  pub failed : (left next : Option (List ℕ)) (r s : Reader) (d e : D) (answer : Result Unit Stop) (stop : Stop) → IsErrAnd answer (λ x. x ≡ stop) → stop ≡ Unread → Ran judged over left r d answer next s e
  failed None next r s d e answer stop told unread = tt
  failed (Some xs) next r s d e answer stop told unread = rw (told_unread answer stop told unread) tt

  -- the reading is over
  over-to : (left at next : Option (List ℕ)) (r s : Reader) (d e : D) → To left r d at s e → (o : Option Fault) → IfSome at (λ xs. (over s xs ≡ Some o) × (next ≡ Some xs))
      → IfSome left (λ xs. (ys : List ℕ) × (next ≡ Some ys) × Run judged over xs r d o ys s e)
  over-to None at next r s d e h o ends = tt
  over-to (Some xs) None next r s d e h o ends = absurd h
  over-to (Some xs) (Some ys) next r s d e h o ends = (ys, ends.1, h o ys s e (ended ys s e o ends.0))

  pub is_over : {left at : Option (List ℕ)} {r s : Reader} {d e : D} (next : Option (List ℕ)) → Leads left r d at s e → (o : Option Fault) → IfSome at (λ xs. (over s xs ≡ Some o) × (next ≡ Some xs))
      → (answer : Result Unit Stop) → verdict answer ≡ Some o → Ran judged over left r d answer next s e
  is_over {left} {at} {r} {s} {d} {e} next h o ends answer told = rw told (over-to left at next r s d e h.to o ends)

-- an input that has a line is not at its end
pub has_line : (r : Reader) (xs : List ℕ) → xs ≢ [] → with_input r xs ≡ None
has_line r [] some = absurd (some refl)
has_line r (x ∷ xs) some = refl

-- an input that has none is
pub at_end : (at next : Option (List ℕ)) (r : Reader) → IfSome at (λ xs. xs ≡ []) → IfSome at (λ xs. next ≡ Some (behind xs)) → IfSome at (λ xs. (with_input r xs ≡ Some None) × (next ≡ Some xs))
at_end None next r none leaves = tt
at_end (Some xs) next r none leaves = rw none (refl, rw none at leaves)

-- the sheet's lines go on while E has not come, where the input has a line
pub sheet_line : (r : Reader) → r.section ≢ Book → (xs : List ℕ) → xs ≢ [] → with_sheet r xs ≡ None
sheet_line r before xs some = line r.section before xs some
  where
    line : (s : Section) → s ≢ Book → (xs : List ℕ) → xs ≢ [] → sheet_over s r xs ≡ None
    line s before [] some = absurd (some refl)
    line Sheet before (x ∷ xs) some = refl
    line FirstArray before (x ∷ xs) some = refl
    line SecondArray before (x ∷ xs) some = refl
    line Book before (x ∷ xs) some = absurd (before refl)

-- where it has none, it ends too early
pub sheet_early : (at next : Option (List ℕ)) (r : Reader) → r.section ≢ Book → IfSome at (λ xs. xs ≡ []) → IfSome at (λ xs. next ≡ Some (behind xs))
    → IfSome at (λ xs. (with_sheet r xs ≡ Some (Some (early r))) × (next ≡ Some xs))
sheet_early None next r before none leaves = tt
sheet_early (Some xs) next r before none leaves = rw none (ends r.section before, rw none at leaves)
  where
    ends : (s : Section) → s ≢ Book → sheet_over s r [] ≡ Some (Some (early r))
    ends Sheet before = refl
    ends FirstArray before = refl
    ends SecondArray before = refl
    ends Book before = absurd (before refl)

-- and E ends it
pub sheet_end : (at : Option (List ℕ)) (r : Reader) → r.section ≡ Book → IfSome at (λ xs. (with_sheet r xs ≡ Some None) × (at ≡ Some xs))
sheet_end None r book = tt
sheet_end (Some xs) r book = (ap (λ s. sheet_over s r xs) book, refl)
