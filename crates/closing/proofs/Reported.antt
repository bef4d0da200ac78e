-- How far a report is printed: what stands there, and what is left of it.
use Rattle.std.proofs.Common.{◌≡◌, ℕ, ◌+◌, ◌<◌, ◌≤◌, true, false, List, [], ◌∷◌, ◌++◌, cond, filter, map, length, drop, get_or, sym, ap, ◌∙◌, append_assoc}
use Rattle.std.proofs.Output.{writes_in_calls_nil, has_written_append, has_written_of_eq, has_written_to_eq}
use Rattle.std.specs.Fmt.{HasWritten, IsPlainFormatter}
use Rattle.std.specs.List.{flat_map}
use Rattle.std.specs.declared.fmt.Formatter.{Formatter}
use Rattle.std.proofs.lemmas.List.{drop_more, drop_all}
use Rattle.terms.specs.declared.words.Currency.{Currency}
use Rattle.terms.specs.declared.words.Currency.TheVariants.{Hkd}
use Rattle.sheet.specs.Limits.{quoted}
use Rattle.account.specs.Sums.{currencies}
use Rattle.collateral.specs.declared.statements.Statement.{Statement}
use Rattle.collateral.specs.Requirements.{owes}
use Rattle.closing.specs.Report.{owed_lines}

module _ {W : Type 0} (took : W → List ℕ → W → Type 0) where
  -- g is f after what was printed of a text, and the rest of the text is left
  abbrev pub Printing : Formatter W → List ℕ → List ℕ → Formatter W → Type 0
  Printing f text rest g = IsPlainFormatter f → (done : List ℕ) × HasWritten took f done g × (done ++ rest ≡ text)

  -- at first the whole text is left
  pub begins : (f : Formatter W) (text rest : List ℕ) → rest ≡ text → Printing f text rest f
  begins f text rest e plain = ([], record { wrote = writes_in_calls_nil took _; plain = plain }, e)

  module _ (f : Formatter W) (text rest left : List ℕ) (g h : Formatter W) (so_far : Printing f text rest g) where
    pub prints : (bs : List ℕ) → rest ≡ bs ++ left → (IsPlainFormatter g → HasWritten took g bs h) → Printing f text left h
    prints bs e writes plain =
        let p = so_far plain in
        (p.0 ++ bs, has_written_append took _ _ _ _ _ p.1 (writes p.1.plain), append_assoc p.0 bs left ∙ ap (λ (t : List ℕ). p.0 ++ t) (sym e) ∙ p.2)

    pub prints_nothing : rest ≡ left → h ≡ g → Printing f text left h
    prints_nothing e same plain = let p = so_far plain in (p.0, has_written_to_eq took _ _ _ _ same p.1, ap (λ (t : List ℕ). p.0 ++ t) (sym e) ∙ p.2)

  -- at last what is left is printed
  pub ends : (f : Formatter W) (text rest : List ℕ) (g h : Formatter W) → Printing f text rest g → (IsPlainFormatter g → HasWritten took g rest h) → IsPlainFormatter f → HasWritten took f text h
  ends f text rest g h so_far writes plain = let p = so_far plain in has_written_of_eq took _ _ _ _ p.2 (has_written_append took _ _ _ _ _ p.1 (writes p.1.plain))

module _ (rates : List ℕ) (line : Currency → List ℕ) where
  -- the lines of the currencies from a number on
  abbrev pub lines_from : ℕ → List ℕ
  lines_from k = flat_map line (filter (quoted rates) (drop k currencies))

  module _ (k : ℕ) (lt : k < 5) where
    abbrev here : Currency
    here = get_or currencies k Hkd

    next : lines_from k ≡ flat_map line (cond (quoted rates here) (here ∷ filter (quoted rates) (drop (k + 1) currencies)) (filter (quoted rates) (drop (k + 1) currencies)))
    next = ap (λ cs. flat_map line (filter (quoted rates) cs)) (drop_more currencies k Hkd lt)

    module _ {W : Type 0} (took : W → List ℕ → W → Type 0) (f : Formatter W) (text : List ℕ) (g h : Formatter W) (so_far : Printing took f text (lines_from k) g) where
      -- a currency on the sheet has its line
      pub prints_line : true ≡ quoted rates here → (IsPlainFormatter g → HasWritten took g (line here) h) → Printing took f text (lines_from (k + 1)) h
      prints_line on = prints took f text (lines_from k) (lines_from (k + 1)) g h so_far (line here) (rw (sym on) at next)

      -- any other has none
      pub passes_over : false ≡ quoted rates here → h ≡ g → Printing took f text (lines_from (k + 1)) h
      passes_over off = prints_nothing took f text (lines_from k) (lines_from (k + 1)) g h so_far (rw (sym off) at next)

module _ (rates rest : List ℕ) (statements : List Statement) where
  -- the lines of the accounts from a place on, and the rest
  abbrev pub accounts_from : ℕ → List ℕ
  accounts_from k = flat_map (owed_lines rates) (map owes (drop k statements)) ++ rest

  pub no_account : (k : ℕ) → length statements ≤ k → accounts_from k ≡ rest
  no_account k le = ap (λ xs. flat_map (owed_lines rates) (map owes xs) ++ rest) (drop_all k statements le)

  pub account : (k : ℕ) (a : Statement) → k < length statements → a ≡ get_or statements k a → accounts_from k ≡ owed_lines rates (owes a) ++ accounts_from (k + 1)
  account k a lt is =
      ap (λ xs. flat_map (owed_lines rates) (map owes xs) ++ rest) (drop_more statements k a lt ∙ ap (λ x. x ∷ drop (k + 1) statements) (sym is))
      ∙ append_assoc (owed_lines rates (owes a)) _ rest
