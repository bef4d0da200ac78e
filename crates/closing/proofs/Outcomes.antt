-- An input has one outcome, since its lines are read in one way.
use Rattle.std.proofs.Common.{◌≡◌, ℕ, List, None, Some, Option, sym, ap₂, subst, subst₂, ◌∙◌}
use Rattle.terms.specs.declared.faults.Fault.{Fault}
use Rattle.lines.specs.declared.reader.Reader.{Reader}
use Rattle.desk.specs.Dealings.{Dealing, deals}
use Rattle.desk.specs.Listings.{Writing, writes}
use Rattle.desk.specs.Runs.{Run, beginning, with_input, with_sheet}
use Rattle.desk.proofs.Once.{deals_once, run_once, writes_once}
use Rattle.closing.specs.Days.{DealsBook, OneOutcome, WritesSheet, blank, closed, opening, no_sheet, no_book, margined}

-- its lines up to E write one sheet
sheet_once : (xs : List ℕ) (o q : Option Fault) (w v : Writing) (ys zs : List ℕ) (t u : Reader) → WritesSheet xs o w ys t → WritesSheet xs q v zs u → (o ≡ q) × (ys ≡ zs) × (t ≡ u) × (w ≡ v)
sheet_once xs o q w v ys zs t u a b = run_once writes writes_once with_sheet xs beginning blank o ys t w a q zs u v b

-- those after it deal one book
book_once : (w v : Writing) (ys zs : List ℕ) (t u : Reader) (o q : Option Fault) (d e : Dealing) → (ys ≡ zs) × (t ≡ u) × (w ≡ v) → DealsBook w.draft ys t o d → DealsBook v.draft zs u q e → (o ≡ q) × (d ≡ e)
book_once w v ys zs t u o q d e (x, y, z) (l, m, run) (l2, m2, run2) =
    let other = subst (λ v. Run deals with_input zs u (opening v.draft) q l2 m2 e) (sym z) run2 in
    let there = subst₂ (λ zs u. Run deals with_input zs u (opening w.draft) q l2 m2 e) (sym x) (sym y) other in
    let same = run_once deals deals_once with_input ys t (opening w.draft) o l m d run q l2 m2 e there in
    (same.0, same.3)

pub one_outcome : OneOutcome
one_outcome xs r s (no_sheet f w ys t a e) (no_sheet g v zs u b h) =
    let one = sheet_once xs (Some f) (Some g) w v ys zs t u a b in
    let fault : Some f ≡ Some g = one.0 in
    cc
one_outcome xs r s (no_sheet f w ys t a e) (no_book v zs u g d b c h) =
    let one = sheet_once xs (Some f) None w v ys zs t u a b in
    let fault : Some f ≡ None = one.0 in
    absurd cc
one_outcome xs r s (no_sheet f w ys t a e) (margined v zs u d b c h) =
    let one = sheet_once xs (Some f) None w v ys zs t u a b in
    let fault : Some f ≡ None = one.0 in
    absurd cc
one_outcome xs r s (no_book w ys t f d a c e) (no_sheet g v zs u b h) =
    let one = sheet_once xs None (Some g) w v ys zs t u a b in
    let fault : None ≡ Some g = one.0 in
    absurd cc
one_outcome xs r s (no_book w ys t f d a c e) (no_book v zs u g d2 b c2 h) =
    let one = sheet_once xs None None w v ys zs t u a b in
    let two = book_once w v ys zs t u (Some f) (Some g) d d2 (one.1, one.2, one.3) c c2 in
    let fault : Some f ≡ Some g = two.0 in
    cc
one_outcome xs r s (no_book w ys t f d a c e) (margined v zs u d2 b c2 h) =
    let one = sheet_once xs None None w v ys zs t u a b in
    let two = book_once w v ys zs t u (Some f) None d d2 (one.1, one.2, one.3) c c2 in
    let fault : Some f ≡ None = two.0 in
    absurd cc
one_outcome xs r s (margined w ys t d a c e) (no_sheet g v zs u b h) =
    let one = sheet_once xs None (Some g) w v ys zs t u a b in
    let fault : None ≡ Some g = one.0 in
    absurd cc
one_outcome xs r s (margined w ys t d a c e) (no_book v zs u g d2 b c2 h) =
    let one = sheet_once xs None None w v ys zs t u a b in
    let two = book_once w v ys zs t u None (Some g) d d2 (one.1, one.2, one.3) c c2 in
    let fault : None ≡ Some g = two.0 in
    absurd cc
one_outcome xs r s (margined w ys t d a c e) (margined v zs u d2 b c2 h) =
    let one = sheet_once xs None None w v ys zs t u a b in
    let two = book_once w v ys zs t u None None d d2 (one.1, one.2, one.3) c c2 in
    e ∙ ap₂ (λ w d. closed w.draft d) one.3 two.1 ∙ sym h
