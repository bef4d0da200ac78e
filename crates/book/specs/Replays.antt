-- Calls that are made one after the other, with what each was answered.
use Rattle.std.specs.Prelude.{List, [], ◌∷◌}
use Rattle.terms.specs.Faults.{refusal}
use Rattle.charge.specs.Meanings.{Meaning}
use Rattle.account.specs.Outcomes.{filled}
use Rattle.book.specs.declared.replays.Answer.{Answer}
use Rattle.book.specs.declared.replays.Call.{Call}
use Rattle.book.specs.declared.replays.Call.TheVariants.{Open, Post, CloseOut, Move, Report, Pool}
use Rattle.book.specs.Events.{Event, Made, Asked, Report as Reported, Pool as Pooled}
use Rattle.book.specs.Uses.{Opening, Posting, Closing, Moving}

-- A call that was answered is an event: a use of the book that was made, or a report or a pool that was asked for by the charge.
abbrev pub event_of : Meaning → Call → Answer → Event
event_of m (Open t b d) a = Made (Opening t.now b d) (refusal a.outcome)
event_of m (Post t k l n) a = Made (Posting t.now k l n) (refusal a.outcome)
event_of m (CloseOut t k n) a = Made (Closing t.now k n) (refusal a.outcome)
event_of m (Move x y k l n) a = Made (Moving x.now y.now k l n) (refusal a.outcome)
event_of m (Report t) a = Asked (Reported m t.now (filled a.outcome a.report))
event_of m (Pool o) a = Asked (Pooled m o (filled a.outcome a.pool))

-- each call with the answer beside it, in order; a call that has no place for an answer is no event
abbrev pub events_of : Meaning → List Call → List Answer → List Event
events_of m [] answers = []
events_of m (c ∷ calls) [] = []
events_of m (c ∷ calls) (a ∷ answers) = event_of m c a ∷ events_of m calls answers
