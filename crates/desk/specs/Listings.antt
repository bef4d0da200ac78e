-- What a line before E does: the one call that its record stands for.
use Rattle.std.specs.Prelude.{◌≡◌, List, ℤ, pos, replicate, Some, None, Option}
use Rattle.terms.specs.declared.faults.Fault.{Fault}
use Rattle.terms.specs.declared.keys.AskedKey.{AskedKey}
use Rattle.terms.specs.declared.words.Currency.{Currency}
use Rattle.terms.specs.declared.words.Layer.TheVariants.{Book}
use Rattle.terms.specs.declared.words.Refusal.TheVariants.{Limit}
use Rattle.terms.specs.Codes.{currency_of}
use Rattle.terms.specs.Faults.{refused}
use Rattle.sheet.specs.declared.rows.Listing.{Listing}
use Rattle.sheet.specs.declared.sheets.Sheet.{Sheet as Sealed}
use Rattle.sheet.specs.State.{State, Use, Step, line_fault, values_fault}
use Rattle.sheet.specs.State.{Rate as AddRate, Class as AddClass, Listed as AddSeries}
use Rattle.lines.specs.declared.reader.Section.{Section}
use Rattle.lines.specs.declared.reader.Section.TheVariants.{Sheet, FirstArray, SecondArray, Book as AfterE}
use Rattle.lines.specs.declared.record.Record.{Record}
use Rattle.lines.specs.declared.record.Record.TheVariants.{Class, Series, Array, Rate, End, Account, Post, CloseOut, Move, Deposit}
use Rattle.desk.specs.declared.sheet_desk.Pending.{Pending}
use Rattle.desk.specs.Halves.{begun, ended}

-- nothing is refused and nothing altered
abbrev pub Still : State → Option Pending → Option Fault → State → Option Pending → Type 0
Still s p o t p' = (o ≡ None) × (t ≡ s) × (p' ≡ p)

-- a line whose code is no currency's is refused 3; any other is the call with its currency
abbrev pub Told : Option Currency → (Currency → Use) → State → Option Pending → Option Fault → State → Option Pending → Type 0
Told None call s p o t p' = (o ≡ Some (refused Limit Book)) × (t ≡ s) × (p' ≡ p)
Told (Some c) call s p o t p' = Step s (call c) o t × (p' ≡ p)

-- a series that is not refused waits for its array
abbrev pub waiting : Listing → Option Pending → Option Fault → Option Pending
waiting l p None = Some (record { listing = l; array = replicate 16 (pos 0) })
waiting l p (Some f) = p

-- eight values inside their limits: the first half waits for the second, with which the series enters the sheet
abbrev pub Filled : Section → List ℤ → State → Option Pending → Option Fault → State → Option Pending → Type 0
Filled section zs s None o t p' = Still s None o t p'
Filled FirstArray zs s (Some p) o t p' = (o ≡ None) × (t ≡ s) × (p' ≡ Some (record { listing = p.listing; array = begun p.array zs }))
Filled Sheet zs s (Some p) o t p' = Step s (AddSeries p.listing (ended p.array zs)) o t × (p' ≡ None)
Filled SecondArray zs s (Some p) o t p' = Step s (AddSeries p.listing (ended p.array zs)) o t × (p' ≡ None)
Filled AfterE zs s (Some p) o t p' = Step s (AddSeries p.listing (ended p.array zs)) o t × (p' ≡ None)

-- eight values beyond a limit are refused at their own line
abbrev pub Valued : Option Fault → Section → List ℤ → State → Option Pending → Option Fault → State → Option Pending → Type 0
Valued (Some f) section zs s p o t p' = (o ≡ Some f) × (t ≡ s) × (p' ≡ p)
Valued None section zs s p o t p' = Filled section zs s p o t p'

-- a series as its line gives it
abbrev pub listing : AskedKey → ℤ → ℤ → ℤ → Listing
listing k price shares delta = record { key = k; price = price; shares = shares; delta = delta }

-- the section of a line and its record, the draft and the series that waits before it, its fault, and both after it
abbrev pub Written : Section → Record → State → Option Pending → Option Fault → State → Option Pending → Type 0
Written section (Class code c spread minimum) s p o t p' = Told (currency_of c) (λ k. AddClass code k spread minimum) s p o t p'
Written section (Rate c z) s p o t p' = Told (currency_of c) (λ k. AddRate k z) s p o t p'
Written section (Series k price shares delta) s p o t p' =
    (o ≡ line_fault s (listing k price shares delta)) × (t ≡ s) × (p' ≡ waiting (listing k price shares delta) p o)
Written section (Array zs) s p o t p' = Valued (values_fault zs) section zs s p o t p'
Written section End s p o t p' = Still s p o t p'
Written section (Account n b d) s p o t p' = Still s p o t p'
Written section (Post n k l z) s p o t p' = Still s p o t p'
Written section (CloseOut n k z) s p o t p' = Still s p o t p'
Written section (Move a b k l z) s p o t p' = Still s p o t p'
Written section (Deposit d c z) s p o t p' = Still s p o t p'

-- what the lines before E write on: a draft, and the series that waits for its array
pub record Writing : Type 0 where
  pub draft : State
  pub waits : Option Pending

abbrev pub writes : Writing → Section → Record → Option Fault → Writing → Type 0
writes d section rec o e = Written section rec d.draft d.waits o e.draft e.waits

-- a sheet has what its draft had when it was sealed
pub record Seals (draft : State) (sheet : Sealed) : Type 0 where
  pub rates : sheet.rates.by_number ≡ draft.rates
  pub classes : sheet.classes.now ≡ draft.classes
  pub series : sheet.series.now ≡ draft.series
