-- The number and the written letter of each case of the closed lists.
use Rattle.std.specs.Prelude.{ℕ, List, [], ◌∷◌}
use Rattle.terms.specs.declared.words.Currency.{Currency}
use Rattle.terms.specs.declared.words.Currency.TheVariants.{Hkd, Usd, Eur, Jpy, Rmb}
use Rattle.terms.specs.declared.words.Side.{Side}
use Rattle.terms.specs.declared.words.Side.TheVariants.{Client, House}
use Rattle.terms.specs.declared.words.Basis.{Basis}
use Rattle.terms.specs.declared.words.Basis.TheVariants.{Gross, Net}
use Rattle.terms.specs.declared.words.Leg.{Leg}
use Rattle.terms.specs.declared.words.Leg.TheVariants.{Long, Short}
use Rattle.terms.specs.declared.words.Kind.{Kind}
use Rattle.terms.specs.declared.words.Kind.TheVariants.{Call, Put}
use Rattle.terms.specs.declared.words.Refusal.{Refusal}
use Rattle.terms.specs.declared.words.Refusal.TheVariants.{BadLine, Turn, Limit, Twice, Unknown, Full, NotHeld, Ceiling, TooLarge, Notice}
use Rattle.terms.specs.declared.words.Layer.{Layer}
use Rattle.terms.specs.declared.words.Layer.TheVariants.{Line, Book, Account, Charge}
use Rattle.terms.specs.declared.words.Label.{Label}
use Rattle.terms.specs.declared.words.Label.TheVariants.{Scanning, Spread, Minimum, Sum, Greater, Other}

-- the currencies in their order
abbrev pub currency_number : Currency → ℕ
currency_number Hkd = 0
currency_number Usd = 1
currency_number Eur = 2
currency_number Jpy = 3
currency_number Rmb = 4

-- the letters of a currency: "HKD", "USD", "EUR", "JPY", "RMB"
abbrev pub currency_letters : Currency → List ℕ
currency_letters Hkd = 72 ∷ 75 ∷ 68 ∷ []
currency_letters Usd = 85 ∷ 83 ∷ 68 ∷ []
currency_letters Eur = 69 ∷ 85 ∷ 82 ∷ []
currency_letters Jpy = 74 ∷ 80 ∷ 89 ∷ []
currency_letters Rmb = 82 ∷ 77 ∷ 66 ∷ []

abbrev pub side_number : Side → ℕ
side_number Client = 0
side_number House = 1

-- C or H
abbrev pub side_letter : Side → ℕ
side_letter Client = 67
side_letter House = 72

-- G or N
abbrev pub basis_letter : Basis → ℕ
basis_letter Gross = 71
basis_letter Net = 78

abbrev pub leg_number : Leg → ℕ
leg_number Long = 0
leg_number Short = 1

-- L or S
abbrev pub leg_letter : Leg → ℕ
leg_letter Long = 76
leg_letter Short = 83

-- a call comes before a put
abbrev pub kind_number : Kind → ℕ
kind_number Call = 0
kind_number Put = 1

-- C or P
abbrev pub kind_letter : Kind → ℕ
kind_letter Call = 67
kind_letter Put = 80

-- the ten rows: the earliest that fits decides
abbrev pub refusal_number : Refusal → ℕ
refusal_number BadLine = 1
refusal_number Turn = 2
refusal_number Limit = 3
refusal_number Twice = 4
refusal_number Unknown = 5
refusal_number Full = 6
refusal_number NotHeld = 7
refusal_number Ceiling = 8
refusal_number TooLarge = 9
refusal_number Notice = 10

abbrev pub layer_number : Layer → ℕ
layer_number Line = 1
layer_number Book = 2
layer_number Account = 3
layer_number Charge = 4

abbrev pub label_number : Label → ℕ
label_number Scanning = 1
label_number Spread = 2
label_number Minimum = 3
label_number Sum = 4
label_number Greater = 5
label_number (Other n) = n
