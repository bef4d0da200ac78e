-- What happens to a book: uses of it, figures that are asked for, and uses that are tried.
use Rattle.std.specs.Prelude.{◌≡◌, ℕ, List, [], ◌∷◌, All, Some, None, Option, Result}
use Rattle.terms.specs.declared.faults.Fault.{Fault}
use Rattle.terms.specs.declared.words.Side.{Side}
use Rattle.charge.specs.Meanings.{Meaning, Lawful}
use Rattle.account.specs.declared.rule.AccountReport.{AccountReport}
use Rattle.book.specs.declared.pooling.PoolFigures.{PoolFigures}
use Rattle.book.specs.Pool.{pool}
use Rattle.book.specs.Reports.{named_report}
use Rattle.book.specs.State.{State}
use Rattle.book.specs.Uses.{Use, Step, fault_of, done}

-- Figures that are asked for by a charge, and what is answered: the report of the account that a text names, or the pool of a side or of both.
pub data Inquiry : Type 0 where
  Report : Meaning → List ℕ → Result AccountReport Fault → Inquiry
  Pool : Meaning → Option Side → Result PoolFigures Fault → Inquiry

-- A book answers as it stands, by a lawful charge.
pub data Answered (s : State) : Inquiry → Type 0 where
  reports : {m : Meaning} {x : List ℕ} {r : Result AccountReport Fault} → Lawful m → r ≡ named_report m s x → Answered s (Report m x r)
  pools : {m : Meaning} {o : Option Side} {r : Result PoolFigures Fault} → Lawful m → r ≡ pool m s o → Answered s (Pool m o r)

-- A use that was made, and what it answered; figures that were asked for; a use that was tried, what it met, and what was asked meanwhile.
pub data Event : Type 0 where
  Made : Use → Option Fault → Event
  Asked : Inquiry → Event
  Tried : Use → Option Fault → List Inquiry → Event

-- Meanwhile the book stands as the use leaves it; of a use that is refused nothing is asked.
abbrev pub Meanwhile : State → Use → Option Fault → List Inquiry → Type 0
Meanwhile s u None qs = All (Answered (done s u)) qs
Meanwhile s u (Some f) qs = qs ≡ []

-- One event: what is asked, and a use that is only tried, leave the book as it was.
pub data Happens (s : State) : Event → State → Type 0 where
  makes : {u : Use} {o : Option Fault} {t : State} → Step s u o t → Happens s (Made u o) t
  asks : {a : Inquiry} → Answered s a → Happens s (Asked a) s
  tries : {u : Use} {o : Option Fault} {qs : List Inquiry} → o ≡ fault_of s u → Meanwhile s u o qs → Happens s (Tried u o qs) s

-- Events one after the other, from a book to what they leave of it.
pub data Run : State → List Event → State → Type 0 where
  none : {s : State} → Run s [] s
  next : {s t v : State} (e : Event) {es : List Event} → Happens s e t → Run t es v → Run s (e ∷ es) v
