-- The lines of a report: a letter and its fields, one blank before each, ended by a line feed.
use Rattle.std.specs.Prelude.{ℕ, List, [], ◌∷◌, pos}
use Rattle.terms.specs.declared.names.Name.{Name}
use Rattle.terms.specs.declared.words.Currency.{Currency}
use Rattle.terms.specs.declared.words.Refusal.{Refusal}
use Rattle.terms.specs.declared.words.Side.{Side}
use Rattle.terms.specs.Names.{spelled}
use Rattle.terms.specs.Words.{currency_letters, refusal_number, side_letter}
use Rattle.lines.specs.Columns.{column, laid}

-- an amount has thirteen columns
abbrev pub amount : ℕ → List ℕ
amount n = column 13 (pos n)

-- K: an account's name, a currency, what it owes
abbrev pub owed_line : Name → Currency → ℕ → List ℕ
owed_line name currency owed = 75 ∷ laid (spelled name ∷ currency_letters currency ∷ amount owed ∷ [])

-- N: a side, a currency, its requirement and its call
abbrev pub call_line : Side → Currency → ℕ → ℕ → List ℕ
call_line side currency requirement call = 78 ∷ laid ((side_letter side ∷ []) ∷ currency_letters currency ∷ amount requirement ∷ amount call ∷ [])

-- F: the number of a line, the number of its refusal
abbrev pub fault_line : ℕ → Refusal → List ℕ
fault_line line refusal = 70 ∷ laid (column 7 (pos line) ∷ column 2 (pos (refusal_number refusal)) ∷ [])
