-- The fields of a line: what may stand in each, how it is written, and what it is to cut one off the front of a line.
use Rattle.std.specs.Prelude.{◌≡◌, ℕ, List, [], ◌∷◌, ◌++◌, length, ℤ, Option, MatchOption, ◌≢◌}
use Rattle.std.specs.Borrow.{Bor}
use Rattle.terms.specs.declared.codes.Code.{Code}
use Rattle.terms.specs.declared.keys.AskedKey.{AskedKey}
use Rattle.terms.specs.Codes.{lettered}
use Rattle.terms.specs.Words.{kind_letter}
use Rattle.lines.specs.Columns.{left, column, Fits, column_or_blank, FitsOrBlank, Coded, Spelled}

-- a field: its values, how each is written with what follows behind it, and which may stand in it
pub record Field : Type 1 where
  pub Value : Type 0
  pub text : Value → List ℕ → List ℕ
  pub Fit : Value → Type 0

-- a field whose values are written by a form
abbrev pub one : (A : Type 0) → (A → List ℕ) → (A → Type 0) → Field
one A W F = record { Value = A; text = λ a t. W a ++ t; Fit = F }

-- bytes as they stand, of a width
abbrev pub plain_field : ℕ → Field
plain_field w = one (List ℕ) (λ f. f) (λ f. length f ≡ w)

-- a number of a width
abbrev pub number_field : ℕ → Field
number_field w = one ℤ (column w) (Fits w)

-- a number of a width, or blanks
abbrev pub number_or_blank_field : ℕ → Field
number_or_blank_field w = one (Option ℤ) (column_or_blank w) (FitsOrBlank w)

-- a single letter
abbrev pub letter_field : {A : Type 0} → (A → ℕ) → Field
letter_field {A} L = one A (λ a. L a ∷ []) (λ a. Unit {0})

-- a code of three capitals
abbrev pub code_field : Field
code_field = one Code lettered Coded

-- a name at the left of twenty columns
abbrev pub name_field : Field
name_field = one (List ℕ) (left 20) Spelled

-- the code of a key is three capitals, and its numbers fit their columns
abbrev pub Keyed : AskedKey → Type 0
Keyed k = Coded k.class × Fits 6 k.month × Fits 8 k.strike

-- a key: class, month, kind and strike, a blank before each but the first
abbrev pub key_field : Field
key_field = record {
  Value = AskedKey;
  text = λ k t. lettered k.class ++ 32 ∷ (column 6 k.month ++ 32 ∷ kind_letter k.kind ∷ 32 ∷ (column 8 k.strike ++ t));
  Fit = Keyed;
}

-- s begins with a blank and the field of a, and of no other value; t follows
pub record Front (P : Field) (s : List ℕ) (a : P.Value) (t : List ℕ) : Type 0 where
  pub fit : P.Fit a
  pub reads : s ≡ 32 ∷ P.text a t
  pub only : (b : P.Value) (u : List ℕ) → P.Fit b → s ≡ 32 ∷ P.text b u → (b ≡ a) × (u ≡ t)

-- s begins with a blank and the field of no value
pub record Alien (P : Field) (s : List ℕ) : Type 0 where
  pub none : (b : P.Value) (u : List ℕ) → P.Fit b → s ≢ 32 ∷ P.text b u

-- r is the value whose field s begins with, and what follows it; or nothing where there is none
abbrev pub Cut : (P : Field) → List ℕ → Option (P.Value × Bor (List ℕ)) → Type 0
Cut P s r = MatchOption r (Alien P s) (λ p. Front P s p.0 p.1.now)
