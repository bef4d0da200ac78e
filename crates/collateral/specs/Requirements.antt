-- What an account's statement says, and a side's requirement: the sum of what its accounts owe, each at least 0.
use Rattle.std.specs.Prelude.{◌≡◌, ℕ, ◌+◌, Bool, true, false, cond, List, [], ◌∷◌, ◌++◌, slice_index, sum_by}
use Rattle.terms.specs.declared.names.Name.{Name}
use Rattle.terms.specs.declared.words.Currency.{Currency}
use Rattle.terms.specs.declared.words.Side.{Side}
use Rattle.terms.specs.declared.words.Side.TheVariants.{Client, House}
use Rattle.terms.specs.Words.{currency_number}
use Rattle.collateral.specs.declared.statements.Statement.{Statement}

-- what a statement says: the account's name and side, and the cents it owes in each currency
pub record Owes : Type 0 where
  pub name : Name
  pub side : Side
  pub owed : List ℕ

abbrev pub owes : Statement → Owes
owes a = record { name = a.name; side = a.side; owed = a.owed }

abbrev pub same_side : Side → Side → Bool
same_side Client Client = true
same_side Client House = false
same_side House Client = false
same_side House House = true

-- what an account owes, where it settles through the side; another side's account adds nothing
abbrev pub owed_by : Side → Currency → Owes → ℕ
owed_by s c a = cond (same_side a.side s) (slice_index a.owed (currency_number c)) 0

-- the sum over the accounts: no account lessens it
abbrev pub requirement_of : Side → Currency → List Owes → ℕ
requirement_of s c rows = sum_by (owed_by s c) rows

-- One account more adds what it owes through the side: no credit that it has lessens what the others owe.
pub record NoneLessens : Type 0 where
  pub adds : (s : Side) (c : Currency) (rows : List Owes) (a : Owes) → requirement_of s c (rows ++ a ∷ []) ≡ requirement_of s c rows + owed_by s c a
