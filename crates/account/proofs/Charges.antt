-- The charges of the pieces are added from the front; each is at most 10^11.
use Rattle.std.proofs.Common.{◌≡◌, ℕ, ◌+◌, ◌<◌, ◌≤◌, Bool, true, false, cond, leb, List, [], ◌∷◌, length, get_or, drop, set, replicate, ℤ, pos, ◌+ℤ◌, nat_abs, IfOk, Ok, Err, Result, sym, refl, ap, ◌∙◌, arith}
use borrow.Author.Differences.{ints}
use lib.IntN.{+ℤ_idl, +ℤ_idr}
use Rattle.std.proofs.lemmas.List.{at_drop_more, at_drop_all, get_or-replicate, set-set, set-get_or}
use Rattle.std.proofs.lemmas.List.FromFn.{length-map-range_with_len, get_or-map-range_with_len}
use Rattle.std.proofs.lemmas.Bool.{leb-true}
use Rattle.std.proofs.lemmas.Result.{err_from_is_err_and}
use Rattle.std.specs.Result.{MatchResult, IsErrAnd}
use Rattle.terms.specs.declared.faults.Fault.{Fault}
use Rattle.terms.specs.declared.words.Label.{Label}
use Rattle.terms.specs.declared.words.Basis.TheVariants.{Gross}
use Rattle.terms.specs.declared.words.Refusal.TheVariants.{TooLarge}
use Rattle.terms.specs.declared.words.Layer.TheVariants.{Account}
use Rattle.terms.specs.Faults.{refused}
use Rattle.sheet.specs.Given.{Terms}
use Rattle.charge.specs.Positions.{fits}
use Rattle.charge.specs.Answers.{limited, answer, too_large, outside}
use Rattle.charge.specs.Meanings.{Meaning}
use Rattle.charge.specs.Replies.{amount_answer}
use Rattle.terms.specs.declared.codes.Code.{Code}
use Rattle.terms.specs.declared.names.Name.{Name}
use Rattle.terms.specs.declared.words.Basis.{Basis}
use Rattle.account.specs.Outcomes.{beyond, bounded, and_then, plus}
use Rattle.account.specs.Pieces.{single, pieces, mark, marks}
use Rattle.account.specs.Figures.{in_class, handed_up, amounts, position_figure, class_figure}
use Rattle.account.proofs.Marks.{marks_of_pieces}
use Rattle.account.proofs.Outcomes.{never}

-- an amount lies within its limit
cond_small : (b : Bool) (n : ℕ) (f : Fault) (z : ℤ) → b ≡ leb n 100000000000 → cond b (Ok (pos n)) (Err f) ≡ Ok z → nat_abs z ≤ 100000000000
cond_small true n f z b e =
    let q : pos n ≡ z = cc in
    rw (← q) (leb-true n 100000000000 (sym b))
cond_small false n f z b e = absurd (never f z e)

pub answer_small : (fit : Bool) (n : ℕ) (l r : Label) (z : ℤ) → answer fit n l r ≡ Ok z → nat_abs z ≤ 100000000000
unfolding limited
answer_small true n l r z e = cond_small (leb n 100000000000) n (too_large l) z refl e
answer_small false n l r z e = absurd (never (outside r) z e)

pub amount_small : (m : Meaning) (t : Terms) (p : List ℤ) (z : ℤ) → Ok z ≡ amount_answer m t p → nat_abs z ≤ 100000000000
amount_small m t p z e = answer_small (fits (length t.rows) p) (m.charged t p) (m.blamed t p) m.refuses z (sym e)

-- figures added to an answer
pub plus_none : {E : Type 0} (r : Result ℤ E) → plus (pos 0) r ≡ r
plus_none (Ok x) = ap Ok (+ℤ_idl x)
plus_none (Err e) = refl

pub plus_more : {E : Type 0} (a y : ℤ) (r : Result ℤ E) → plus a (plus y r) ≡ plus (a +ℤ y) r
plus_more a y (Ok x) = ap Ok (omega (arith, ints))
plus_more a y (Err e) = refl

-- the piece that is charged, and what is left when its count is set back
pub single_is : (a cs : List ℤ) (i : ℕ) (x : ℤ) → a ≡ replicate (length cs) (pos 0) → x ≡ get_or cs i (pos 0) → set a i x ≡ single cs i
single_is a cs i x e h = rw (e, h)

pub cleared : (a : List ℤ) (n i : ℕ) (x : ℤ) → i < n → a ≡ replicate n (pos 0) → set (set a i x) i (pos 0) ≡ replicate n (pos 0)
cleared a n i x p e =
    let g = get_or-replicate n i (pos 0) (pos 0) p in
    set-set a i x (pos 0) ∙ ap (λ l. set l i (pos 0)) e ∙ rw g at (set-get_or (replicate n (pos 0)) i (pos 0))

module _ (m : Meaning) (t : Terms) (a : ℤ) (cs : List ℤ) (i : ℕ) where
  amounts_more : i < length cs → amounts m t (drop i (pieces Gross cs)) ≡ and_then (amount_answer m t (single cs i)) (λ x. plus x (amounts m t (drop (i + 1) (pieces Gross cs))))
  amounts_more p =
      let l : i < length (pieces Gross cs) = omega (arith, length-map-range_with_len (single cs) 0 (length cs)) in
      at_drop_more (amounts m t) (pieces Gross cs) i [] l
      ∙ ap (λ q. amounts m t (q ∷ drop (i + 1) (pieces Gross cs))) (get_or-map-range_with_len (single cs) 0 (length cs) i i [] p (omega arith))

  module _ (piece : List ℤ) (x : ℤ) (p : i < length cs) (clear : piece ≡ replicate (length cs) (pos 0)) (read : x ≡ get_or cs i (pos 0)) where
    answered : (r : Result ℤ Fault) → r ≡ amount_answer m t (set piece i x) → amounts m t (drop i (pieces Gross cs)) ≡ and_then r (λ y. plus y (amounts m t (drop (i + 1) (pieces Gross cs))))
    answered r h =
        let s = single_is piece cs i x clear read in
        amounts_more p ∙ ap (λ r. and_then r (λ y. plus y (amounts m t (drop (i + 1) (pieces Gross cs))))) (sym (h ∙ ap (amount_answer m t) s))

    pub amounts_stop : (e : Fault) → Err e ≡ amount_answer m t (set piece i x) → plus a (amounts m t (drop i (pieces Gross cs))) ≡ Err e
    amounts_stop e h = ap (plus a) (answered (Err e) h)

    pub amounts_go : (y : ℤ) → Ok y ≡ amount_answer m t (set piece i x) → plus a (amounts m t (drop i (pieces Gross cs))) ≡ plus (a +ℤ y) (amounts m t (drop (i + 1) (pieces Gross cs)))
    amounts_go y h = ap (plus a) (answered (Ok y) h) ∙ plus_more a y (amounts m t (drop (i + 1) (pieces Gross cs)))

  pub amounts_end : length cs ≤ i → plus a (amounts m t (drop i (pieces Gross cs))) ≡ Ok a
  amounts_end p = ap (plus a) (at_drop_all (amounts m t) (pieces Gross cs) i (omega (arith, length-map-range_with_len (single cs) 0 (length cs)))) ∙ ap Ok (+ℤ_idr a)

-- the amount of one piece, as a bound on an answer
pub amount_made : (m : Meaning) (t : Terms) (p : List ℤ) (r : Result ℤ Fault) → r ≡ amount_answer m t p → IfOk r (λ z. nat_abs z ≤ 12800000000000)
amount_made m t p (Ok z) e = omega (arith, amount_small m t p z e)
amount_made m t p (Err f) e = tt

-- a figure that is tested, and then worked on
tested : {Y : Type 0} (q : Bool) (f : Fault) (z : ℤ) (k : ℤ → Result Y Fault) → and_then (cond q (Err f) (Ok z)) k ≡ cond q (Err f) (k z)
tested true f z k = refl
tested false f z k = refl

-- the figure of a position by what was computed: z the mark, r what its test answers
pub figure_from : (m : Meaning) (b : Basis) (t : Terms) (p : List ℤ) (z : ℤ) (r : Result ℤ Fault) → z ≡ mark t.rows p → r ≡ bounded z → and_then r (λ y. plus y (amounts m t (pieces b p))) ≡ position_figure m b t p
figure_from m b t p z r e h =
    let work = λ (y : ℤ). plus y (amounts m t (pieces b p)) in
    ap (λ (r : Result ℤ Fault). and_then r work) (h ∙ ap bounded (e ∙ sym (marks_of_pieces b t.rows p)))
    ∙ tested (beyond (marks t.rows (pieces b p))) (refused TooLarge Account) (marks t.rows (pieces b p)) work

-- the figure of a class by what is equal to its code, its terms and its counts
module _ (name : Name) (code : Code) where
  pub figure_moved : (m : Meaning) (b : Basis) (t u : Terms) (p q : List ℤ) (other : Code) → code ≡ other → t ≡ u → p ≡ q → class_figure m name b code t p ≡ class_figure m name b other u q
  figure_moved m b t u p q other coded given counted = rw (coded, given, counted)

  -- what `map_err` answers, where its closure adds account and class
  pub handed : (r s : Result ℤ Fault) {P : Fault → Fault → Type 0} → MatchResult r (λ z. s ≡ Ok z) (λ e. IsErrAnd s (P e)) → ((e f : Fault) → P e f → f ≡ in_class name code e) → s ≡ handed_up name code r
  handed (Ok z) s h told = h
  handed (Err e) s h told = let p = err_from_is_err_and s h in p.1 ∙ ap Err (told e p.0 p.2)
