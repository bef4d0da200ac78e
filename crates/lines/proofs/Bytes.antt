-- How long a report's lines are: those of a kind are all of one length, where their figures fit the columns.
use Rattle.std.specs.Prelude.{◌≡◌, ℕ, ◌+◌, ◌-◌, ◌^◌, ◌<◌, List, [], ◌∷◌, length, replicate, pos}
use Rattle.std.specs.Fmt.{decimal}
use Rattle.std.proofs.Common.{refl, arith}
use Rattle.std.proofs.lemmas.Fmt.{length-decimal-le}
use Rattle.std.proofs.lemmas.List.{length-append, length-replicate}
use Rattle.terms.specs.declared.names.Name.{Name}
use Rattle.terms.specs.declared.words.Currency.{Currency}
use Rattle.terms.specs.declared.words.Currency.TheVariants.{Hkd, Usd, Eur, Jpy, Rmb}
use Rattle.terms.specs.declared.words.Refusal.{Refusal}
use Rattle.terms.specs.declared.words.Refusal.TheVariants.{BadLine, Turn, Limit, Twice, Unknown, Full, NotHeld, Ceiling, TooLarge, Notice}
use Rattle.terms.specs.declared.words.Side.{Side}
use Rattle.terms.specs.Names.{spelled}
use Rattle.terms.specs.Words.{currency_letters, refusal_number}
use Rattle.lines.specs.Columns.{column, laid}
use Rattle.lines.specs.Report.{amount, owed_line, call_line, fault_line}

column_width : (w n : ℕ) → 0 < w → n < 10 ^ w → n < 2 ^ 64 → length (column w (pos n)) ≡ w
column_width w n some fits small =
    omega (arith, length-append (replicate (w - length (decimal n)) 32) (decimal n), length-replicate {A = ℕ} (w - length (decimal n)) 32, length-decimal-le w n some fits small)

amount_width : (n : ℕ) → n < 10 ^ 13 → length (amount n) ≡ 13
amount_width n fits = column_width 13 n (omega arith) fits (omega arith)

letters_width : (c : Currency) → length (currency_letters c) ≡ 3
letters_width Hkd = refl
letters_width Usd = refl
letters_width Eur = refl
letters_width Jpy = refl
letters_width Rmb = refl

number_width : (r : Refusal) → refusal_number r < 10 ^ 2
number_width BadLine = omega arith
number_width Turn = omega arith
number_width Limit = omega arith
number_width Twice = omega arith
number_width Unknown = omega arith
number_width Full = omega arith
number_width NotHeld = omega arith
number_width Ceiling = omega arith
number_width TooLarge = omega arith
number_width Notice = omega arith

-- a field takes a blank more than its own columns
field_width : (f : List ℕ) (fs : List (List ℕ)) → length (laid (f ∷ fs)) ≡ 1 + length f + length (laid fs)
field_width f fs = omega (arith, length-append f (laid fs))

pub owed_bytes : (name : Name) (currency : Currency) (owed : ℕ) → length (spelled name) ≡ 20 → owed < 10 ^ 13 → length (owed_line name currency owed) ≡ 41
owed_bytes name currency owed twenty fits =
    let k = currency_letters currency in
    omega (arith, field_width (spelled name) (k ∷ amount owed ∷ []), field_width k (amount owed ∷ []), field_width (amount owed) [], letters_width currency, amount_width owed fits)

pub call_bytes : (side : Side) (currency : Currency) (requirement call : ℕ) → requirement < 10 ^ 13 → call < 10 ^ 13 → length (call_line side currency requirement call) ≡ 36
call_bytes side currency requirement call fits call_fits =
    let k = currency_letters currency in
    let m = amount requirement in
    let n = amount call in
    omega (arith, field_width k (m ∷ n ∷ []), field_width m (n ∷ []), field_width n [], letters_width currency, amount_width requirement fits, amount_width call call_fits)

pub fault_bytes : (line : ℕ) (refusal : Refusal) → line < 10 ^ 7 → length (fault_line line refusal) ≡ 13
fault_bytes line refusal fits =
    let at = column 7 (pos line) in
    let number = refusal_number refusal in
    let two : length (column 2 (pos number)) ≡ 2 = column_width 2 number (omega arith) (number_width refusal) (omega (arith, number_width refusal)) in
    omega (arith, field_width at (column 2 (pos number) ∷ []), field_width (column 2 (pos number)) [], column_width 7 line (omega arith) fits (omega arith), two)
