-- What a trial of a posting does.
use Rattle.std.specs.Prelude.{◌≡◌, ℕ, List, Some, None, Err, Option, Result}
use Rattle.std.specs.Option.{option_or}
use Rattle.terms.specs.declared.faults.Fault.{Fault}
use Rattle.charge.specs.Meanings.{Meaning}
use Rattle.account.specs.declared.rule.AccountReport.{AccountReport}
use Rattle.book.specs.Reports.{named_report}
use Rattle.book.specs.State.{State}
use Rattle.book.specs.Uses.{Use, fault_of, done}

-- What a caller asks of a book: when it is refused, and what the caller holds when it was asked.
pub record Question (A : Type 0) : Type 0 where
  pub refused : A → State → Option Fault
  pub told : A → State → A

-- Whoever asks is asked nothing where the posting is refused, and else about the book with the contracts posted.
abbrev pub told_after : {A : Type 0} → (A → State → A) → A → Option Fault → State → A
told_after told a (Some e) s = a
told_after told a None s = told a s

-- Two questions, one after the other: where the first is refused, the second is not put.
abbrev pub both : {A B : Type 0} → Question A → Question B → Question (A × B)
both p q = record {
  refused = λ a s. option_or (p.refused a.0 s) (q.refused a.1 s);
  told = λ a s. (p.told a.0 s, told_after q.told a.1 (p.refused a.0 s) s);
}

-- One trial: the posting's fault, or else that of what is asked; what the caller holds afterwards; and the book as it was.
pub record Trial {A : Type 0} (q : Question A) (s : State) (u : Use) (a : A) (o : Option Fault) (b : A) (t : State) : Type 0 where
  pub fault : o ≡ option_or (fault_of s u) (q.refused a (done s u))
  pub held : b ≡ told_after q.told a (fault_of s u) (done s u)
  pub book : t ≡ s

-- an account's report with contracts posted, refused where the posting is
abbrev pub if_met : {X : Type 0} → Option Fault → Result X Fault → Result X Fault
if_met (Some e) r = Err e
if_met None r = r

abbrev pub report_with : Meaning → State → Use → List ℕ → Result AccountReport Fault
report_with m s u t = if_met (fault_of s u) (named_report m (done s u) t)
