-- A count that is put back leaves the book as it was.
use Rattle.std.proofs.Common.{◌≡◌, ℕ, zero, suc, List, [], ◌∷◌, get_or, set, None, Some, Option, Ok, Err, Result, refl, ap, ◌∙◌}
use Rattle.std.specs.Option.{option_or}
use Rattle.terms.specs.declared.words.Leg.{Leg}
use Rattle.terms.specs.declared.faults.Fault.{Fault}
use Rattle.terms.specs.Faults.{refusal}
use Rattle.account.specs.Outcomes.{filled, left_in}
use Rattle.book.specs.declared.dealings.Spot.{Spot}
use Rattle.book.specs.State.{State, cell, at_counts}
use Rattle.book.specs.Found.{at_spot, more}
use Rattle.book.specs.Trials.{Question, Trial, told_after, if_met}
use Rattle.book.specs.Uses.{Use, fault_of, done}

set_back : (xs : List ℕ) (i v : ℕ) → set (set xs i v) i (get_or xs i 0) ≡ xs
set_back [] i v = refl
set_back (x ∷ xs) zero v = refl
set_back (x ∷ xs) (suc i) v = ap (λ (ys : List ℕ). x ∷ ys) (set_back xs i v)

-- the number that stood there, set again after contracts were added
pub put_back : (s t u : State) (p : Spot) (l : Leg) (i n : ℕ) → t ≡ more s p l → i ≡ cell p.slot p.series l → n ≡ at_spot s p l → u ≡ at_counts t (set t.counts i n) → u ≡ s
put_back s t u p l i n added place number back =
    back ∙ rw (added, place, number) (ap (λ (xs : List ℕ). at_counts s xs) (set_back s.counts (cell p.slot p.series l) _))

module _ {A : Type 0} (q : Question A) (s : State) (u : Use) (a : A) where
  -- a posting that is refused is no trial: nothing is asked
  pub refused_trial : (e : Fault) → Some e ≡ fault_of s u → Trial q s u a (Some e) a s
  refused_trial e h = record { fault = rw (← h) refl; held = rw (← h) refl; book = refl }

  -- a posting that is not refused, and a question that was put to what it leaves
  pub asked_trial : (t v : State) (o : Option Fault) (b : A) → None ≡ fault_of s u → t ≡ done s u → o ≡ q.refused a t → b ≡ q.told a t → v ≡ s → Trial q s u a o b v
  asked_trial t v o b h added fault held back = record { fault = rw (← h, ← added) fault; held = rw (← h, ← added) held; book = back }

-- a call that is refused as an answer is, and leaves in its place what that answer leaves there, has that answer
filled_as : {X U : Type 0} (r : Result X Fault) (o : Result U Fault) (x y : X) → refusal o ≡ refusal r → y ≡ left_in r x → filled o y ≡ r
filled_as (Ok z) (Ok w) x y h k = ap Ok k
filled_as (Err e) (Ok w) x y h k = cc
filled_as (Ok z) (Err d) x y h k = cc
filled_as (Err e) (Err d) x y h k = cc

module _ {A X : Type 0} (place : A → X) (r : Result X Fault) where
  met_or_left : (told : A → State → A) (a : A) (f : Option Fault) (t : State) → place (told a t) ≡ left_in r (place a) → place (told_after told a f t) ≡ left_in (if_met f r) (place a)
  met_or_left told a (Some e) t h = refl
  met_or_left told a None t h = h

  refused_as : (f : Option Fault) → option_or f (refusal r) ≡ refusal (if_met f r)
  refused_as (Some e) = refl
  refused_as None = refl

  -- what a trial leaves in a place of the asker's, where the question fills that place or is refused
  pub left_by_trial : {q : Question A} {s t : State} {u : Use} {a b : A} {o : Option Fault} → Trial q s u a o b t → place (q.told a (done s u)) ≡ left_in r (place a) → place b ≡ left_in (if_met (fault_of s u) r) (place a)
  left_by_trial {q = q} {s = s} {u = u} {a = a} tried h = ap place tried.held ∙ met_or_left q.told a (fault_of s u) (done s u) h

  pub answered_by_trial : {U : Type 0} {q : Question A} {s t : State} {u : Use} {a b : A} (o : Result U Fault) → Trial q s u a (refusal o) b t → q.refused a (done s u) ≡ refusal r → place (q.told a (done s u)) ≡ left_in r (place a)
      → filled o (place b) ≡ if_met (fault_of s u) r
  answered_by_trial {s = s} {u = u} {a = a} {b = b} o tried e h =
      filled_as (if_met (fault_of s u) r) o (place a) (place b) (tried.fault ∙ ap (λ (g : Option Fault). option_or (fault_of s u) g) e ∙ refused_as (fault_of s u)) (left_by_trial tried h)
