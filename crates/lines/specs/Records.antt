-- The ten kinds of line: the letter and the fields of each, and what a line of it must hold to.
use Rattle.std.specs.Prelude.{◌≡◌, ℕ, List, [], ◌∷◌, ◌++◌, map, length, ℤ, Option, MatchOption}
use Rattle.terms.specs.declared.codes.Code.{Code}
use Rattle.terms.specs.declared.keys.AskedKey.{AskedKey}
use Rattle.terms.specs.declared.words.Basis.{Basis}
use Rattle.terms.specs.declared.words.Leg.{Leg}
use Rattle.terms.specs.declared.words.Side.{Side}
use Rattle.terms.specs.Codes.{lettered}
use Rattle.terms.specs.Words.{basis_letter, kind_letter, leg_letter, side_letter}
use Rattle.lines.specs.declared.record.Record.{Record}
use Rattle.lines.specs.declared.record.Record.TheVariants.{Class, Series, Array, Rate, End, Account, Post, CloseOut, Move, Deposit}
use Rattle.lines.specs.Columns.{Is, Isnt, left, column, Fits, column_or_blank, FitsOrBlank, laid, Coded, Spelled}
use Rattle.lines.specs.Fields.{Keyed}

-- what a line says
pub data Entry : Type 0 where
  -- a class: its code, its currency, its spread rate if it has one, its minimum rate
  class : Code → Code → Option ℤ → ℤ → Entry
  -- a series: its key, its price, the shares of a contract, its delta
  series : AskedKey → ℤ → ℤ → ℤ → Entry
  -- eight values of a series' risk array
  array : List ℤ → Entry
  -- a currency and its rate
  rate : Code → ℤ → Entry
  -- the end of the sheet
  end : Entry
  -- an account: its name, gross or net, its side
  account : List ℕ → Basis → Side → Entry
  -- contracts posted to an account, long or short
  post : List ℕ → AskedKey → Leg → ℤ → Entry
  -- contracts closed out in an account
  close_out : List ℕ → AskedKey → ℤ → Entry
  -- contracts moved from one account to another, long or short
  move : List ℕ → List ℕ → AskedKey → Leg → ℤ → Entry
  -- collateral deposited on a side, in a currency
  deposit : Side → Code → ℤ → Entry

-- the letter that a line begins with: C, S, R, X, E, A, P, Q, M or D
abbrev pub letter : Entry → ℕ
letter (class c k s m) = 67
letter (series k p n d) = 83
letter (array zs) = 82
letter (rate c r) = 88
letter end = 69
letter (account t b s) = 65
letter (post t k l n) = 80
letter (close_out t k n) = 81
letter (move t u k l n) = 77
letter (deposit s c z) = 68

-- a key takes four fields: class, month of six columns, C or P, strike of eight columns
abbrev pub key_fields : AskedKey → List (List ℕ)
key_fields k = lettered k.class ∷ column 6 k.month ∷ (kind_letter k.kind ∷ []) ∷ column 8 k.strike ∷ []

-- the fields of each kind, with their widths
abbrev pub fields : Entry → List (List ℕ)
fields (class c k s m) = lettered c ∷ lettered k ∷ column_or_blank 6 s ∷ column 7 m ∷ []
fields (series k p n d) = key_fields k ++ (column 8 p ∷ column 5 n ∷ column 4 d ∷ [])
fields (array zs) = map (column 9) zs
fields (rate c r) = lettered c ∷ column 6 r ∷ []
fields end = []
fields (account t b s) = left 20 t ∷ (basis_letter b ∷ []) ∷ (side_letter s ∷ []) ∷ []
fields (post t k l n) = left 20 t ∷ key_fields k ++ ((leg_letter l ∷ []) ∷ column 6 n ∷ [])
fields (close_out t k n) = left 20 t ∷ key_fields k ++ (column 6 n ∷ [])
fields (move t u k l n) = left 20 t ∷ left 20 u ∷ key_fields k ++ ((leg_letter l ∷ []) ∷ column 6 n ∷ [])
fields (deposit s c z) = (side_letter s ∷ []) ∷ lettered c ∷ column 13 z ∷ []

-- a line is its letter and its fields, one blank before each, ended by a line feed
abbrev pub body : Entry → List ℕ
body e = laid (fields e)

abbrev pub written : Entry → List ℕ
written e = letter e ∷ body e

abbrev pub AllFit : List ℤ → Type 0
AllFit [] = Unit {0}
AllFit (z ∷ zs) = Fits 9 z × AllFit zs

-- names and codes have their form, numbers fit their columns, and an array has eight values
abbrev pub Sound : Entry → Type 0
Sound (class c k s m) = Coded c × Coded k × FitsOrBlank 6 s × Fits 7 m
Sound (series k p n d) = Keyed k × Fits 8 p × Fits 5 n × Fits 4 d
Sound (array zs) = (length zs ≡ 8) × AllFit zs
Sound (rate c r) = Coded c × Fits 6 r
Sound end = Unit {0}
Sound (account t b s) = Spelled t
Sound (post t k l n) = Spelled t × Keyed k × Fits 6 n
Sound (close_out t k n) = Spelled t × Keyed k × Fits 6 n
Sound (move t u k l n) = Spelled t × Spelled u × Keyed k × Fits 6 n
Sound (deposit s c z) = Coded c × Fits 13 z

-- a sound line of one letter
abbrev pub Of : ℕ → Entry → Type 0
Of l e = Sound e × (letter e ≡ l)

-- what a record of the program says
abbrev pub meant : Record → Entry
meant (Class c k s m) = class c k s m
meant (Series k p n d) = series k p n d
meant (Array zs) = array zs
meant (Rate c r) = rate c r
meant End = end
meant (Account t b s) = account t.now b s
meant (Post t k l n) = post t.now k l n
meant (CloseOut t k n) = close_out t.now k n
meant (Move t u k l n) = move t.now u.now k l n
meant (Deposit s c z) = deposit s c z

-- r is what a line of a letter says whose fields are s, or nothing where s is not the fields of such a line
abbrev pub Says : ℕ → List ℕ → Option Record → Type 0
Says l s r = MatchOption r (Isnt body (Of l) s) (λ x. Is body (Of l) s (meant x))
