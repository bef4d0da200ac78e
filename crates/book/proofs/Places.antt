-- Where an account and a series stand.
use Rattle.std.proofs.Common.{◌≡◌, ◌≢◌, ℕ, ◌<◌, true, eqb, List, [], ◌∷◌, length, get_or, All, Some, None, Option, ap, refl, sym, ◌∙◌, ⊎_elim, arith}
use Rattle.std.specs.Ordering.{is_eq}
use Rattle.std.proofs.lemmas.Bool.{eq-eqb, ne_eqb, cases_eq, false_from_ne_true}
use Rattle.std.proofs.lemmas.List.Quantifiers.{position-Some}
use Rattle.terms.specs.declared.keys.SeriesKey.{SeriesKey}
use Rattle.terms.specs.declared.names.Name.{Name}
use Rattle.terms.specs.Keys.{figured}
use Rattle.terms.specs.Names.{spelled}
use Rattle.terms.specs.Order.{order}
use Rattle.register.specs.Rows.{sought}
use Rattle.register.proofs.Search.{same_from_order}
use Rattle.sheet.specs.declared.rows.Series.{Series}
use Rattle.sheet.specs.Rows.{series_rank}
use Rattle.book.specs.declared.rows.AccountRow.{AccountRow}
use Rattle.book.specs.Rows.{account_rank, row_at, slot_in, number_of}
use Rattle.book.proofs.Slots.{slot_below}

-- the opening number of the account with a name, and the place of the series with a key
pub record Stand (rows : List AccountRow) (series : List Series) (x : Name) (q : SeriesKey) : Type 0 where
  pub number : ℕ
  pub place : ℕ
  pub account : slot_in rows x ≡ Some number
  pub listed : sought series_rank (figured q) series ≡ Some place

-- the opening number of an account that is there
pub number_below : (rows : List AccountRow) (n : ℕ) (x : Name) (i : ℕ) → All (λ a. a.slot < n) rows → slot_in rows x ≡ Some i → i < n
number_below rows n x i all e = by (sought account_rank (spelled x) rows) e
  where
    by_row : (o : Option AccountRow) → ((a : AccountRow) → o ≡ Some a → a.slot < n) → number_of o ≡ Some i → i < n
    by_row None h f = cc
    by_row (Some a) h f = let same : a.slot ≡ i = cc in let b = h a refl in omega arith

    by : (o : Option ℕ) → number_of (row_at rows o) ≡ Some i → i < n
    by None f = cc
    by (Some p) f = by_row (row_at rows (Some p)) (λ a g. slot_below n rows p a all (sym g)) f

found_row : (x : Series) (xs : List Series) (k : List ℕ) (i : ℕ) → sought series_rank k (x ∷ xs) ≡ Some i → series_rank (get_or (x ∷ xs) i x) ≡ k
found_row x xs k i e = same_from_order _ _ (position-Some (λ r. is_eq (order (series_rank r) k)) (x ∷ xs) i x e).1

-- two keys have one place exactly where they are of one series
pub same_place : (rows : List Series) (p q : List ℕ) (i j : ℕ) → sought series_rank p rows ≡ Some i → sought series_rank q rows ≡ Some j → is_eq (order p q) ≡ eqb i j
same_place [] p q i j e f = cc
same_place (x ∷ xs) p q i j e f =
    ⊎_elim
    (λ (one : i ≡ j).
    let same : p ≡ q = sym (found_row x xs p i e) ∙ ap (λ n. series_rank (get_or (x ∷ xs) n x)) one ∙ found_row x xs q j f in
    let ties = (position-Some (λ r. is_eq (order (series_rank r) q)) (x ∷ xs) j x f).1 in
    let tie : is_eq (order q q) ≡ true = ap (λ r. is_eq (order r q)) (sym (found_row x xs q j f)) ∙ ties in
    ap (λ r. is_eq (order r q)) same ∙ tie ∙ sym (eq-eqb i j one))
    (λ (two : i ≢ j).
    false_from_ne_true _ (λ tie.
    let same : p ≡ q = same_from_order p q tie in
    let at : Some i ≡ Some j = sym e ∙ ap (λ r. sought series_rank r (x ∷ xs)) same ∙ f in
    let number : i ≡ j = cc in
    two number) ∙ sym (ne_eqb i j two))
    (cases_eq i j)

pub place_below : (rows : List Series) (k : List ℕ) (i : ℕ) → sought series_rank k rows ≡ Some i → i < length rows
place_below [] k i e = cc
place_below (x ∷ xs) k i e = (position-Some (λ r. is_eq (order (series_rank r) k)) (x ∷ xs) i x e).0
