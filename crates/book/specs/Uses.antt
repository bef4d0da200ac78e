-- What each use of a book does, and when it is refused.
use Rattle.std.specs.Prelude.{◌≡◌, ℕ, ◌+◌, ◌-◌, ◌*◌, min, Bool, not, ◌&&◌, List, length, ℤ, is_some, Some, None, Option, nat_le, nat_lt}
use borrow.Author.Differences.{up}
use Rattle.std.specs.Option.{unwrap_or, option_or}
use Rattle.terms.specs.declared.words.Basis.{Basis}
use Rattle.terms.specs.declared.words.Side.{Side}
use Rattle.terms.specs.declared.words.Leg.{Leg}
use Rattle.terms.specs.declared.words.Leg.TheVariants.{Long, Short}
use Rattle.terms.specs.declared.words.Refusal.{Refusal}
use Rattle.terms.specs.declared.words.Refusal.TheVariants.{Twice, Full, NotHeld, Ceiling}
use Rattle.terms.specs.declared.words.Layer.TheVariants.{Book}
use Rattle.terms.specs.declared.codes.Code.{Code}
use Rattle.terms.specs.declared.names.Name.{Name}
use Rattle.terms.specs.declared.keys.AskedKey.{AskedKey}
use Rattle.terms.specs.declared.faults.Fault.{Fault}
use Rattle.terms.specs.Faults.{refused, with_account, with_class, unless}
use Rattle.terms.specs.Names.{named, spelled}
use Rattle.std.specs.List.{insert}
use Rattle.register.specs.Rows.{sought, place}
use Rattle.book.specs.Limits.{name_of, asked}
use Rattle.book.specs.Rows.{account_rank}
use Rattle.book.specs.State.{State, held, at_count, cleared}
use Rattle.book.specs.Found.{slot, listed, outside, deal_fault, move_fault}

-- An account is opened by a name, a basis and a side. Contracts are posted to one leg, closed out of both, or moved from one account to another.
pub data Use : Type 0 where
  Opening : List ℕ → Basis → Side → Use
  Posting : List ℕ → AskedKey → Leg → ℤ → Use
  Closing : List ℕ → AskedKey → ℤ → Use
  Moving : List ℕ → List ℕ → AskedKey → Leg → ℤ → Use

-- the count that is named, and the book with another number there
abbrev pub count : State → List ℕ → AskedKey → Leg → ℕ
count s t k l = held s (unwrap_or (slot s (name_of t)) 0) (unwrap_or (listed s (asked k)) 0) l

abbrev pub with_count : State → List ℕ → AskedKey → Leg → ℕ → State
with_count s t k l n = at_count s (unwrap_or (slot s (name_of t)) 0) (unwrap_or (listed s (asked k)) 0) l n

-- ---- when a use is refused
-- 6: an account wants a row and 256 counts of the lent memory, and a book has at most 32
abbrev pub roomy : State → Bool
roomy s = nat_lt (length s.accounts) 32 && (nat_lt (length s.accounts) s.room && nat_le (length s.accounts * 256 + 256) (length s.counts))

-- 7 (fewer contracts are there than are taken), 8 (a count would pass 100,000): account and class are named
abbrev pub at_both : Refusal → Name → Code → Fault
at_both e n c = with_class c (with_account n (refused e Book))

-- the fault that a use meets: the earliest row decides
abbrev pub fault_of : State → Use → Option Fault
fault_of s (Opening t b d) =
    unless (is_some (named t)) outside
    (unless (not (is_some (sought account_rank (spelled (name_of t)) s.accounts))) (with_account (name_of t) (refused Twice Book))
    (unless (roomy s) (refused Full Book) None))
fault_of s (Posting t k l n) =
    option_or (deal_fault s t k n)
    (unless (nat_le (count s t k l + up n) 100000) (at_both Ceiling (name_of t) k.class) None)
fault_of s (Closing t k n) =
    option_or (deal_fault s t k n)
    (unless (nat_le (up n) (min (count s t k Long) (count s t k Short))) (at_both NotHeld (name_of t) k.class) None)
fault_of s (Moving a b k l n) =
    option_or (move_fault s a b k n)
    (unless (nat_le (up n) (count s a k l)) (at_both NotHeld (name_of a) k.class)
    (unless (nat_le (count s b k l + up n) 100000) (at_both Ceiling (name_of b) k.class) None))

-- ---- what an accepted use leaves
-- a new account stands in the order of names, with the next opening number and all counts 0
abbrev pub opened : State → Name → Basis → Side → State
opened s n b d = record {
  rates = s.rates;
  classes = s.classes;
  series = s.series;
  accounts = insert s.accounts (place account_rank (spelled n) s.accounts) (record { name = n; basis = b; side = d; slot = length s.accounts });
  counts = cleared s.counts (length s.accounts);
  room = s.room;
}

abbrev pub added : State → List ℕ → AskedKey → Leg → ℕ → State
added s t k l n = with_count s t k l (count s t k l + n)

abbrev pub taken : State → List ℕ → AskedKey → Leg → ℕ → State
taken s t k l n = with_count s t k l (count s t k l - n)

-- post adds to one count, close out takes as many from both, move takes from one account and adds to the other
abbrev pub done : State → Use → State
done s (Opening t b d) = opened s (name_of t) b d
done s (Posting t k l n) = added s t k l (up n)
done s (Closing t k n) = taken (taken s t k Long (up n)) t k Short (up n)
done s (Moving a b k l n) = added (taken s a k l (up n)) b k l (up n)

-- a refused use leaves all as it was
abbrev pub after : State → Use → Option Fault → State
after s u None = done s u
after s u (Some e) = s

-- One use of a book: what it answers, and what it leaves.
pub record Step (s : State) (u : Use) (o : Option Fault) (t : State) : Type 0 where
  pub fault : o ≡ fault_of s u
  pub state : t ≡ after s u o
