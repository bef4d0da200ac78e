-- A run that goes on by one event, and the events of calls that are answered one by one.
use Rattle.std.proofs.Common.{◌≡◌, ℕ, zero, suc, ◌+◌, ◌<◌, min, List, [], ◌∷◌, ◌++◌, length, get_or, set, take, drop, add-one, refl, sym, ap, ◌∙◌, arith, subst}
use Rattle.std.proofs.lemmas.List.{drop-set-lt, drop-drop}
use Rattle.charge.specs.Meanings.{Meaning}
use Rattle.book.specs.declared.replays.Answer.{Answer}
use Rattle.book.specs.declared.replays.Call.{Call}
use Rattle.book.specs.Events.{Event, Happens, Run, none, next}
use Rattle.book.specs.Replays.{event_of, events_of}
use Rattle.book.specs.State.{State}

pub run_on : {s t v : State} {es : List Event} {e : Event} → Run s es t → Happens t e v → Run s (es ++ e ∷ []) v
run_on {e = e} none h = next e h none
run_on (next f g r) h = next f g (run_on r h)

module _ (m : Meaning) where
  -- an answer that is written beside its call is one event more
  events_more : (calls : List Call) (answers : List Answer) (i : ℕ) (c : Call) (a : Answer) → i < length calls → i < length answers
      → events_of m (take (suc i) calls) (set answers i a) ≡ events_of m (take i calls) answers ++ event_of m (get_or calls i c) a ∷ []
  events_more [] answers i c a l k = absurd (omega arith)
  events_more (x ∷ calls) [] i c a l k = absurd (omega arith)
  events_more (x ∷ calls) (b ∷ answers) zero c a l k = refl
  events_more (x ∷ calls) (b ∷ answers) (suc i) c a l k = ap (λ (es : List Event). event_of m x b ∷ es) (events_more calls answers i c a (omega arith) (omega arith))

  -- where each call has its answer, or no place is left
  pub events_all : (calls : List Call) (answers : List Answer) (n : ℕ) → n ≡ min (length calls) (length answers) → events_of m (take n calls) answers ≡ events_of m calls answers
  events_all [] answers zero e = refl
  events_all [] answers (suc n) e = refl
  events_all (x ∷ calls) [] zero e = refl
  events_all (x ∷ calls) [] (suc n) e = refl
  events_all (x ∷ calls) (b ∷ answers) zero e = absurd (omega arith)
  events_all (x ∷ calls) (b ∷ answers) (suc n) e = ap (λ (es : List Event). event_of m x b ∷ es) (events_all calls answers n (omega arith))

  -- a call that is made and answered goes on with the run
  pub run_made : {s t v : State} (calls : List Call) (answers : List Answer) (i : ℕ) (c : Call) (a : Answer) → i < length calls → i < length answers
      → Run s (events_of m (take i calls) answers) t → Happens t (event_of m (get_or calls i c) a) v → Run s (events_of m (take (i + 1) calls) (set answers i a)) v
  run_made {s} {t} {v} calls answers i c a l k run happens =
      let more : events_of m (take (i + 1) calls) (set answers i a) ≡ events_of m (take i calls) answers ++ event_of m (get_or calls i c) a ∷ [] = rw add-one (events_more calls answers i c a l k) in
      subst (λ es. Run s es v) (sym more) (run_on run happens)

-- what comes after the place that is written stays
pub drops_on : {X : Type 0} (xs ys : List X) (i : ℕ) (x : X) → i < length xs → drop i xs ≡ drop i ys → drop (i + 1) (set xs i x) ≡ drop (i + 1) ys
drops_on xs ys i x lt e = drop-set-lt (i + 1) xs i x (omega arith) ∙ sym (drop-drop 1 i xs) ∙ ap (drop 1) e ∙ drop-drop 1 i ys
