-- What a use names, found in a book.
use Rattle.std.specs.Prelude.{◌≡◌, ℕ, ◌+◌, ◌-◌, Bool, cond, not, ◌&&◌, List, ℤ, is_some, Some, None, Option}
use Rattle.terms.specs.declared.words.Refusal.TheVariants.{Limit, Unknown}
use Rattle.terms.specs.declared.words.Layer.TheVariants.{Book}
use Rattle.terms.specs.declared.words.Leg.{Leg}
use Rattle.terms.specs.declared.codes.Code.{Code}
use Rattle.terms.specs.declared.names.Name.{Name}
use Rattle.terms.specs.declared.keys.AskedKey.{AskedKey}
use Rattle.terms.specs.declared.keys.SeriesKey.{SeriesKey}
use Rattle.terms.specs.declared.faults.Fault.{Fault}
use Rattle.terms.specs.Faults.{refused, with_account, unless}
use Rattle.terms.specs.Keys.{figured}
use Rattle.terms.specs.Names.{named}
use Rattle.register.specs.Rows.{sought}
use Rattle.sheet.specs.Rows.{series_rank}
use Rattle.book.specs.declared.dealings.Spot.{Spot}
use Rattle.book.specs.Limits.{name_of, asked, fits, same_account}
use Rattle.book.specs.Rows.{slot_in}
use Rattle.book.specs.State.{State, held, at_count}

-- the opening number of the account with a name, if it is there
abbrev pub slot : State → Name → Option ℕ
slot s x = slot_in s.accounts x

-- The place of the series with a key on the sheet, if it is there. A series stands there only under its class, so no series of an absent class is there.
abbrev pub listed : State → SeriesKey → Option ℕ
listed s q = sought series_rank (figured q) s.series

-- 3: a field is outside its limits, and names no row
abbrev pub outside : Fault
outside = refused Limit Book

-- 3: a move names one account twice, and names it
abbrev pub twice : List ℕ → Fault
twice t = with_account (name_of t) (refused Limit Book)

-- 5: each part of the place that is absent is named
abbrev pub missing : {A B : Type 0} → Option A → B → Option B
missing o x = cond (is_some o) None (Some x)

abbrev pub not_there : Option Name → Option Code → Fault
not_there a c = record { refusal = Unknown; layer = Book; place = record { line = None; account = a; class = c; currency = None; label = None } }

abbrev pub there : State → Name → SeriesKey → Bool
there s x q = is_some (slot s x) && is_some (listed s q)

abbrev pub absent : State → Name → SeriesKey → Fault
absent s x q = not_there (missing (slot s x) x) (missing (listed s q) q.class)

-- of two accounts the first that is absent is named
abbrev pub source_absent : State → Name → SeriesKey → Fault
source_absent s x q = not_there (Some x) (missing (listed s q) q.class)

-- what a dealing on one account meets of the rows 3 and 5
abbrev pub deal_fault : State → List ℕ → AskedKey → ℤ → Option Fault
deal_fault s t k n =
    unless (fits t k n) outside
    (unless (there s (name_of t) (asked k)) (absent s (name_of t) (asked k)) None)

-- and what a move meets of them
abbrev pub move_fault : State → List ℕ → List ℕ → AskedKey → ℤ → Option Fault
move_fault s a b k n =
    unless (not (same_account a b)) (twice a)
    (unless (fits a k n) outside
    (unless (is_some (named b)) outside
    (unless (is_some (slot s (name_of a))) (source_absent s (name_of a) (asked k))
    (unless (there s (name_of b) (asked k)) (absent s (name_of b) (asked k)) None))))

-- where so many contracts of a series fall on an account
pub record Falls (s : State) (x : Name) (q : SeriesKey) (m : ℕ) (p : Spot) : Type 0 where
  pub name : p.name ≡ x
  pub account : slot s x ≡ Some p.slot
  pub place : listed s q ≡ Some p.series
  pub amount : p.contracts ≡ m

-- the count of a leg there, and the book with the contracts added to it or taken from it
abbrev pub at_spot : State → Spot → Leg → ℕ
at_spot s p l = held s p.slot p.series l

abbrev pub more : State → Spot → Leg → State
more s p l = at_count s p.slot p.series l (at_spot s p l + p.contracts)

abbrev pub less : State → Spot → Leg → State
less s p l = at_count s p.slot p.series l (at_spot s p l - p.contracts)
