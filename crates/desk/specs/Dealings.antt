-- What a line after E does: the one call that its record stands for.
use Rattle.std.specs.Prelude.{◌≡◌, ℕ, List, ℤ, Some, None, Option}
use Rattle.terms.specs.declared.faults.Fault.{Fault}
use Rattle.terms.specs.declared.words.Currency.{Currency}
use Rattle.terms.specs.declared.words.Side.{Side}
use Rattle.terms.specs.declared.words.Layer.TheVariants.{Book}
use Rattle.terms.specs.declared.words.Refusal.TheVariants.{Limit}
use Rattle.terms.specs.Codes.{currency_of}
use Rattle.terms.specs.Faults.{refused}
use Rattle.book.specs.State.{State}
use Rattle.book.specs.Uses.{Opening, Posting, Closing, Moving, Step}
use Rattle.collateral.specs.declared.records.Collateral.{Collateral}
use Rattle.collateral.specs.Deposits.{deposit_fault, deposit_after}
use Rattle.lines.specs.declared.reader.Section.{Section}
use Rattle.lines.specs.declared.record.Record.{Record}
use Rattle.lines.specs.declared.record.Record.TheVariants.{Class, Series, Array, Rate, End, Account, Post, CloseOut, Move, Deposit}

-- a deposit whose code is no currency's is refused 3; any other as the ledger refuses it, and else it is added
abbrev pub brought_fault : List ℕ → List (List Collateral) → Side → ℤ → Option Currency → Option Fault
brought_fault rates rs s z None = Some (refused Limit Book)
brought_fault rates rs s z (Some c) = deposit_fault rates rs s c z

abbrev pub brought : List ℕ → List (List Collateral) → Side → ℤ → Option Currency → List (List Collateral)
brought rates rs s z None = rs
brought rates rs s z (Some c) = deposit_after (deposit_fault rates rs s c z) rs s c z

-- nothing is refused and nothing altered
abbrev pub Untouched : State → List (List Collateral) → Option Fault → State → List (List Collateral) → Type 0
Untouched s rs o t rs' = (o ≡ None) × (t ≡ s) × (rs' ≡ rs)

-- a line's record, the book and the records of collateral before it, its fault, and both after it
abbrev pub Dealt : Record → State → List ℕ → List (List Collateral) → Option Fault → State → List (List Collateral) → Type 0
Dealt (Account n b d) s rates rs o t rs' = Step s (Opening n.now b d) o t × (rs' ≡ rs)
Dealt (Post n k l z) s rates rs o t rs' = Step s (Posting n.now k l z) o t × (rs' ≡ rs)
Dealt (CloseOut n k z) s rates rs o t rs' = Step s (Closing n.now k z) o t × (rs' ≡ rs)
Dealt (Move a b k l z) s rates rs o t rs' = Step s (Moving a.now b.now k l z) o t × (rs' ≡ rs)
Dealt (Deposit d c z) s rates rs o t rs' = (o ≡ brought_fault rates rs d z (currency_of c)) × (t ≡ s) × (rs' ≡ brought rates rs d z (currency_of c))
Dealt (Class a b c d) s rates rs o t rs' = Untouched s rs o t rs'
Dealt (Series a b c d) s rates rs o t rs' = Untouched s rs o t rs'
Dealt (Array zs) s rates rs o t rs' = Untouched s rs o t rs'
Dealt (Rate c z) s rates rs o t rs' = Untouched s rs o t rs'
Dealt End s rates rs o t rs' = Untouched s rs o t rs'

-- what the lines after E deal on: a book, the rates of the currencies on its sheet, and the records of collateral
pub record Dealing : Type 0 where
  pub book : State
  pub rates : List ℕ
  pub records : List (List Collateral)

abbrev pub deals : Dealing → Section → Record → Option Fault → Dealing → Type 0
deals d section rec o e = Dealt rec d.book d.rates d.records o e.book e.records × (e.rates ≡ d.rates)
