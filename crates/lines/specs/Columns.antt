-- The columns of a line: where a text stands in its field, and what it is to read one exactly.
use Rattle.std.specs.Prelude.{◌≡◌, ℕ, ◌-◌, ◌^◌, ◌<◌, ◌≤◌, true, List, [], ◌∷◌, ◌++◌, length, replicate, ℤ, Some, None, Option, MatchOption, ◌≢◌}
use Rattle.std.specs.Int.Signed.{mag}
use Rattle.std.specs.Fmt.{signed_decimal}
use Rattle.terms.specs.declared.codes.Code.{Code}
use Rattle.terms.specs.Codes.{proper}
use Rattle.terms.specs.Names.{name_form}

-- a text at the right of a width, blanks before it
abbrev pub right : ℕ → List ℕ → List ℕ
right w text = replicate (w - length text) 32 ++ text

-- a text at the left of a width, blanks behind it
abbrev pub left : ℕ → List ℕ → List ℕ
left w text = text ++ replicate (w - length text) 32

-- a number at the right of a width, in decimal digits without leading zeros, a minus next to the first where it is below zero
abbrev pub column : ℕ → ℤ → List ℕ
column w z = right w (signed_decimal z)

-- a number of 64 bits
abbrev pub Within : ℤ → Type 0
Within z = mag z < 2 ^ 63

-- a number whose digits, and its minus, fit a width
abbrev pub Fits : ℕ → ℤ → Type 0
Fits w z = Within z × (length (signed_decimal z) ≤ w)

-- a number, or all blank where there is none
abbrev pub column_or_blank : ℕ → Option ℤ → List ℕ
column_or_blank w None = replicate w 32
column_or_blank w (Some z) = column w z

abbrev pub FitsOrBlank : ℕ → Option ℤ → Type 0
FitsOrBlank w None = Unit {0}
FitsOrBlank w (Some z) = Fits w z

-- the fields of a line, one blank before each, and the line feed that ends it
abbrev pub laid : List (List ℕ) → List ℕ
laid [] = 10 ∷ []
laid (field ∷ fields) = 32 ∷ (field ++ laid fields)

-- a code is three capitals
abbrev pub Coded : Code → Type 0
Coded c = proper c ≡ true

-- a name is 1 to 20 capitals, digits, hyphens and inner blanks
abbrev pub Spelled : List ℕ → Type 0
Spelled t = name_form t ≡ true

-- f is the written form of the value a, and of no other
pub record Is {A : Type 0} (W : A → List ℕ) (Fit : A → Type 0) (f : List ℕ) (a : A) : Type 0 where
  pub fit : Fit a
  pub reads : f ≡ W a
  pub only : (b : A) → Fit b → f ≡ W b → b ≡ a

-- f is the written form of no value
abbrev pub Isnt : {A : Type 0} → (A → List ℕ) → (A → Type 0) → List ℕ → Type 0
Isnt {A} W Fit f = (b : A) → Fit b → f ≢ W b

-- r is the value whose written form f is, or nothing where there is none
abbrev pub Exactly : {A : Type 0} → (A → List ℕ) → (A → Type 0) → List ℕ → Option A → Type 0
Exactly W Fit f r = MatchOption r (Isnt W Fit f) (λ a. Is W Fit f a)
