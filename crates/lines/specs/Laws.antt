-- The laws of the written form.
use Rattle.std.specs.Prelude.{◌≡◌, ◌↔◌, ℕ, List, take, drop, Some}
use Rattle.terms.specs.declared.words.Basis.{Basis}
use Rattle.terms.specs.declared.words.Side.{Side}
use Rattle.terms.specs.Names.{named}
use Rattle.lines.specs.Columns.{Is}
use Rattle.lines.specs.Records.{Entry, account, Sound, written}

-- no two records have one written form
pub record OneRecord : Type 0 where
  pub same : (a b : Entry) → Sound a → Sound b → written a ≡ written b → a ≡ b

-- the twenty columns of a name, behind a line's letter and a blank
abbrev pub name_columns : List ℕ → List ℕ
name_columns line = take 20 (drop 2 line)

-- an account's name is the name columns of its line; so two lines are of one account exactly where these are the same
pub record OneAccount : Type 0 where
  pub name : (l t : List ℕ) (b : Basis) (s : Side) → Is written Sound l (account t b s) → named t ≡ Some (record { text = name_columns l })
  pub same : (l m t u : List ℕ) (b c : Basis) (s d : Side) → Is written Sound l (account t b s) → Is written Sound m (account u c d) → (name_columns l ≡ name_columns m) ↔ (named t ≡ named u)
