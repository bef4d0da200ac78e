-- What answers is the plain figure: the sum of what it is formed from.
use Rattle.std.proofs.Common.{◌≡◌, ℕ, Bool, true, false, cond, List, [], ◌∷◌, map, leb, length, ℤ, pos, ◌+ℤ◌, Ok, Err, Result, refl, ap, ◌∙◌, arith}
use borrow.Author.Differences.{ints}
use Rattle.terms.specs.declared.codes.Code.{Code}
use Rattle.terms.specs.declared.names.Name.{Name}
use Rattle.terms.specs.declared.faults.Fault.{Fault}
use Rattle.terms.specs.declared.words.Basis.{Basis}
use Rattle.terms.specs.declared.words.Label.{Label}
use Rattle.terms.specs.declared.words.Layer.TheVariants.{Account}
use Rattle.terms.specs.declared.words.Refusal.TheVariants.{TooLarge}
use Rattle.terms.specs.Faults.{refused}
use Rattle.sheet.specs.declared.rows.ClassRow.{ClassRow}
use Rattle.sheet.specs.declared.rows.Series.{Series}
use Rattle.sheet.specs.Given.{Terms, given}
use Rattle.sheet.specs.Rows.{beside}
use Rattle.charge.specs.Positions.{fits}
use Rattle.charge.specs.Answers.{limited, answer, too_large, outside}
use Rattle.charge.specs.Meanings.{Meaning}
use Rattle.charge.specs.Replies.{amount_answer}
use Rattle.account.specs.Outcomes.{beyond, bounded, plus, onto, each}
use Rattle.account.specs.Pieces.{pieces, marks}
use Rattle.account.specs.Figures.{handed_up, amounts, position_figure, figure_of}
use Rattle.account.specs.Plain.{charged_of, plain_figure, class_plain}
use Rattle.account.proofs.Outcomes.{never, after_ok}

-- what stands behind a test that was passed
pub passed : {X E : Type 0} (b : Bool) (f : E) (r : Result X E) (z : X) → cond b (Err f) r ≡ Ok z → r ≡ Ok z
passed true f r z e = absurd (never f z e)
passed false f r z e = e

pub kept : {X E : Type 0} (b : Bool) (f : E) (y z : X) → cond b (Ok y) (Err f) ≡ Ok z → z ≡ y
kept true f y z e = cc
kept false f y z e = absurd (never f z e)

pub same_ok : {X E : Type 0} (y z : X) → ◌≡◌ {A = Result X E} (Ok y) (Ok z) → z ≡ y
same_ok y z e = cc

pub plus_ok : {E : Type 0} (a : ℤ) (r : Result ℤ E) (z : ℤ) → plus a r ≡ Ok z → (y : ℤ) × (r ≡ Ok y) × (z ≡ a +ℤ y)
plus_ok a (Ok y) z e = (y, refl, cc)
plus_ok a (Err f) z e = absurd (never f z e)

onto_ok : {E : Type 0} (a : ℤ) (r : Result (List ℤ) E) (zs : List ℤ) → onto (a ∷ []) r ≡ Ok zs → (ys : List ℤ) × (r ≡ Ok ys) × (zs ≡ a ∷ ys)
onto_ok a (Ok ys) zs e = (ys, refl, cc)
onto_ok a (Err f) zs e = absurd (never f zs e)

pub bounded_plain : (y z : ℤ) → bounded y ≡ Ok z → z ≡ y
bounded_plain y z e = same_ok y z (passed (beyond y) (refused TooLarge Account) (Ok y) z e)

-- figures of elements that answer one by one are the plain figures of the elements
pub each_plain : {A E : Type 0} (g : A → Result ℤ E) (f : A → ℤ) → ((x : A) (z : ℤ) → g x ≡ Ok z → z ≡ f x) → (xs : List A) (zs : List ℤ) → each g xs ≡ Ok zs → zs ≡ map f xs
each_plain g f h [] zs e = cc
each_plain g f h (x ∷ xs) zs e =
    let a = after_ok (g x) (λ z. onto (z ∷ []) (each g xs)) zs e in
    let b = onto_ok a.0 (each g xs) zs a.2 in
    b.2 ∙ ap (λ y. y ∷ b.0) (h x a.0 a.1) ∙ ap (λ ys. f x ∷ ys) (each_plain g f h xs b.0 b.1)

-- a charge answers its figure, and only where the position fits
pub answer_plain : (fit : Bool) (n : ℕ) (l r : Label) (z : ℤ) → answer fit n l r ≡ Ok z → (fit ≡ true) × (z ≡ pos n)
unfolding limited
answer_plain true n l r z e = (refl, kept (leb n 100000000000) (too_large l) (pos n) z e)
answer_plain false n l r z e = absurd (never (outside r) z e)

pub amounts_plain : (m : Meaning) (t : Terms) (ps : List (List ℤ)) (z : ℤ) → amounts m t ps ≡ Ok z → z ≡ pos (charged_of m t ps)
amounts_plain m t [] z e = cc
amounts_plain m t (p ∷ ps) z e =
    let a = after_ok (amount_answer m t p) (λ x. plus x (amounts m t ps)) z e in
    let b = plus_ok a.0 (amounts m t ps) z a.2 in
    let x = (answer_plain (fits (length t.rows) p) (m.charged t p) (m.blamed t p) m.refuses a.0 a.1).1 in
    let y = amounts_plain m t ps b.0 b.1 in
    omega (arith, ints, x, y, b.2)

pub figure_plain : (m : Meaning) (b : Basis) (t : Terms) (p : List ℤ) (z : ℤ) → position_figure m b t p ≡ Ok z → z ≡ plain_figure m b t p
figure_plain m b t p z e =
    let mark = marks t.rows (pieces b p) in
    let rest = amounts m t (pieces b p) in
    let a = plus_ok mark rest z (passed (beyond mark) (refused TooLarge Account) (plus mark rest) z e) in
    a.2 ∙ ap (λ y. mark +ℤ y) (amounts_plain m t (pieces b p) a.0 a.1)

handed_ok : (name : Name) (code : Code) (r : Result ℤ Fault) (z : ℤ) → handed_up name code r ≡ Ok z → r ≡ Ok z
handed_ok name code (Ok y) z e = e
handed_ok name code (Err f) z e = absurd (never _ z e)

pub class_figure_plain : (m : Meaning) (name : Name) (b : Basis) (rows : List Series) (counts : List ℤ) (k : ClassRow) (z : ℤ) → figure_of m name b rows counts k ≡ Ok z → z ≡ class_plain m b rows counts k
class_figure_plain m name b rows counts k z e =
    let t = given k rows in
    let p = beside k.code rows counts in
    figure_plain m b t p z (handed_ok name k.code (position_figure m b t p) z e)
