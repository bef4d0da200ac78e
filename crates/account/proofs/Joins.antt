-- Pieces are joined from the front, and their allowances added; each is at most 10^11. What is joined is as large as its parts together.
use Rattle.std.proofs.Common.{◌≡◌, ℕ, zero, suc, pred, ◌+◌, ◌<◌, ◌≤◌, Bool, true, false, cond, List, [], ◌∷◌, ◌++◌, map, length, get_or, drop, set, replicate, ℤ, pos, ◌+ℤ◌, nat_abs, IfOk, ◌&&◌, Ok, Err, Result, sym, refl, ap, ◌∙◌, add-one, arith}
use lib.IntN.{+ℤ_idr}
use Rattle.std.specs.List.{range_with_len}
use Rattle.std.proofs.lemmas.Bool.{ltb-false}
use Rattle.std.proofs.lemmas.List.{at_drop_more, at_drop_all}
use Rattle.std.proofs.lemmas.List.FromFn.{length-map-range_with_len, get_or-map-range_with_len}
use Rattle.terms.specs.declared.faults.Fault.{Fault}
use Rattle.terms.specs.declared.words.Basis.{Basis}
use Rattle.terms.specs.declared.words.Basis.TheVariants.{Net, Gross}
use Rattle.terms.specs.declared.words.Layer.TheVariants.{Account}
use Rattle.terms.specs.declared.words.Refusal.TheVariants.{TooLarge}
use Rattle.terms.specs.Faults.{refused}
use Rattle.sheet.specs.Given.{Terms}
use Rattle.sheet.specs.Limits.{Within}
use Rattle.charge.specs.Positions.{joined, fits}
use Rattle.charge.specs.Meanings.{Meaning}
use Rattle.charge.specs.Replies.{amount_answer, allowance_answer}
use Rattle.account.specs.declared.pools.ClassPool.{ClassPool}
use Rattle.account.specs.Outcomes.{beyond, bounded, and_then, plus}
use Rattle.account.specs.Pieces.{single, pieces, marks}
use Rattle.account.specs.Figures.{amounts, position_figure}
use Rattle.account.specs.Pools.{empty_position, joined_from, joins, pool_of, class_pool}
use Rattle.account.proofs.Kit.{abs_add}
use Rattle.account.proofs.Outcomes.{never, after_ok}
use Rattle.account.proofs.Charges.{answer_small, amount_small, plus_none, plus_more, single_is}
use Rattle.account.proofs.Answered.{same_ok, plus_ok}
use Rattle.account.proofs.Totals.{within_limit}

-- an allowance lies within its limit
pub allowance_small : (m : Meaning) (t : Terms) (p q : List ℤ) (z : ℤ) → Ok z ≡ allowance_answer m t p q → nat_abs z ≤ 100000000000
allowance_small m t p q z e = answer_small (fits (length t.rows) p && fits (length t.rows) q) (m.allowed t p q) (m.faulted t p q) m.refuses z (sym e)

pub allowance_made : (m : Meaning) (t : Terms) (p q : List ℤ) (r : Result ℤ Fault) → r ≡ allowance_answer m t p q → IfOk r (λ z. nat_abs z ≤ 12800000000000)
allowance_made m t p q (Ok z) e = omega (arith, allowance_small m t p q z e)
allowance_made m t p q (Err f) e = tt

module _ (m : Meaning) (t : Terms) (a : ℤ) (cs : List ℤ) (i : ℕ) (p : List ℤ) where
  -- the pieces from the i-th on: its join, and those after it
  pieces_more : {X : Type 0} (f : List (List ℤ) → X) → i < length cs → f (drop i (pieces Gross cs)) ≡ f (single cs i ∷ drop (i + 1) (pieces Gross cs))
  pieces_more f l =
      let more : i < length (pieces Gross cs) = omega (arith, length-map-range_with_len (single cs) 0 (length cs)) in
      at_drop_more f (pieces Gross cs) i [] more
      ∙ ap (λ q. f (q ∷ drop (i + 1) (pieces Gross cs))) (get_or-map-range_with_len (single cs) 0 (length cs) i i [] l (omega arith))

  module _ (piece : List ℤ) (x : ℤ) (l : i < length cs) (clear : piece ≡ replicate (length cs) (pos 0)) (read : x ≡ get_or cs i (pos 0)) where
    answered : (r : Result ℤ Fault) → r ≡ allowance_answer m t p (set piece i x) → joins m t p (drop i (pieces Gross cs)) ≡ and_then r (λ y. plus y (joins m t (joined p (single cs i)) (drop (i + 1) (pieces Gross cs))))
    answered r h =
        pieces_more (joins m t p) l
        ∙ ap (λ r. and_then r (λ y. plus y (joins m t (joined p (single cs i)) (drop (i + 1) (pieces Gross cs))))) (sym (h ∙ ap (allowance_answer m t p) (single_is piece cs i x clear read)))

    pub joins_stop : (e : Fault) → Err e ≡ allowance_answer m t p (set piece i x) → plus a (joins m t p (drop i (pieces Gross cs))) ≡ Err e
    joins_stop e h = ap (plus a) (answered (Err e) h)

    module _ (next : List ℤ) (made : next ≡ joined p (set piece i x)) where
      next_is : next ≡ joined p (single cs i)
      next_is = made ∙ ap (joined p) (single_is piece cs i x clear read)

      pub joins_go : (y : ℤ) → Ok y ≡ allowance_answer m t p (set piece i x) → plus a (joins m t p (drop i (pieces Gross cs))) ≡ plus (a +ℤ y) (joins m t next (drop (i + 1) (pieces Gross cs)))
      joins_go y h =
          ap (plus a) (answered (Ok y) h)
          ∙ plus_more a y (joins m t (joined p (single cs i)) (drop (i + 1) (pieces Gross cs)))
          ∙ ap (λ q. plus (a +ℤ y) (joins m t q (drop (i + 1) (pieces Gross cs)))) (sym next_is)

      pub joined_go : joined_from p (drop i (pieces Gross cs)) ≡ joined_from next (drop (i + 1) (pieces Gross cs))
      joined_go = pieces_more (joined_from p) l ∙ ap (λ q. joined_from q (drop (i + 1) (pieces Gross cs))) (sym next_is)

  none_left : {X : Type 0} (f : List (List ℤ) → X) → length cs ≤ i → f (drop i (pieces Gross cs)) ≡ f []
  none_left f l = at_drop_all f (pieces Gross cs) i (omega (arith, length-map-range_with_len (single cs) 0 (length cs)))

  pub joins_end : length cs ≤ i → plus a (joins m t p (drop i (pieces Gross cs))) ≡ Ok a
  joins_end l = ap (plus a) (none_left (joins m t p) l) ∙ ap Ok (+ℤ_idr a)

  pub joined_end : length cs ≤ i → joined_from p (drop i (pieces Gross cs)) ≡ p
  joined_end l = none_left (joined_from p) l

-- joined piece by piece or at once, a position is the same
joined_zeros : (xs : List ℤ) → joined xs (replicate (length xs) (pos 0)) ≡ xs
joined_zeros [] = refl
joined_zeros (x ∷ xs) = rw (+ℤ_idr x, joined_zeros xs) refl

behind : (y : ℤ) (xs : List ℤ) (c : ℤ) (cs : List ℤ) (a n : ℕ) → joined_from (y ∷ xs) (map (single (c ∷ cs)) (range_with_len (suc a) n)) ≡ y ∷ joined_from xs (map (single cs) (range_with_len a n))
behind y xs c cs a zero = refl
behind y xs c cs a (suc n) = rw (add-one (suc a), add-one a, +ℤ_idr y) (behind y (joined xs (single cs a)) c cs (suc a) n)

pub joined_pieces : (b : Basis) (p q : List ℤ) → length p ≡ length q → joined_from p (pieces b q) ≡ joined p q
joined_pieces Net p q e = refl
joined_pieces Gross [] [] e = refl
joined_pieces Gross (x ∷ xs) [] e = absurd (omega arith)
joined_pieces Gross [] (c ∷ cs) e = absurd (omega arith)
joined_pieces Gross (x ∷ xs) (c ∷ cs) e =
    let long : length xs ≡ length cs = ap pred e in
    ap (λ n. joined_from ((x +ℤ c) ∷ joined xs (replicate n (pos 0))) (map (single (c ∷ cs)) (range_with_len 1 (length cs)))) (sym long)
    ∙ ap (λ ys. joined_from ((x +ℤ c) ∷ ys) (map (single (c ∷ cs)) (range_with_len 1 (length cs)))) (joined_zeros xs)
    ∙ behind (x +ℤ c) xs c cs 0 (length cs)
    ∙ ap (λ ys. (x +ℤ c) ∷ ys) (joined_pieces Gross xs cs long)

pub length_joined : (p q : List ℤ) → length p ≡ length q → length (joined p q) ≡ length p
length_joined [] q e = refl
length_joined (x ∷ xs) [] e = absurd (omega arith)
length_joined (x ∷ xs) (c ∷ cs) e = ap suc (length_joined xs cs (ap pred e))

-- joined counts are at most as large as the two together
pub joined_within : (a b : ℕ) (p q : List ℤ) → Within a p → Within b q → Within (a + b) (joined p q)
joined_within a b [] q h k i = omega arith
joined_within a b (x ∷ xs) [] h k i = omega arith
joined_within a b (x ∷ xs) (c ∷ cs) h k zero = omega (arith, abs_add x c, h 0, k 0)
joined_within a b (x ∷ xs) (c ∷ cs) h k (suc i) = joined_within a b xs cs (λ j. h (suc j)) (λ j. k (suc j)) i

-- a class's pool that answers: its figure is at most 2 × 10^11 in size, its allowance 10^11
limited_mark : (b : Bool) (f : Fault) (r : Result ℤ Fault) (z : ℤ) → cond b (Err f) r ≡ Ok z → (b ≡ false) × (r ≡ Ok z)
limited_mark true f r z e = absurd (never f z e)
limited_mark false f r z e = (refl, e)

net_figure_small : (m : Meaning) (t : Terms) (p : List ℤ) (z : ℤ) → position_figure m Net t p ≡ Ok z → nat_abs z ≤ 200000000000
net_figure_small m t p z e =
    let mark = marks t.rows (p ∷ []) in
    let a = limited_mark (beyond mark) (refused TooLarge Account) (plus mark (amounts m t (p ∷ []))) z e in
    let s = plus_ok mark (amounts m t (p ∷ [])) z a.1 in
    let c = after_ok (amount_answer m t p) (λ x. plus x (Ok (pos 0))) s.0 s.1 in
    let one : s.0 ≡ c.0 +ℤ pos 0 = same_ok (c.0 +ℤ pos 0) s.0 c.2 in
    let whole : s.0 ≡ c.0 = one ∙ +ℤ_idr c.0 in
    omega (arith, abs_add mark s.0, ap nat_abs s.2, ap nat_abs whole, ltb-false 100000000000 (nat_abs mark) a.0, amount_small m t p c.0 (sym c.1))

pub class_pool_small : (m : Meaning) (t : Terms) (qs : List (List ℤ)) (p : ClassPool) → class_pool m t qs ≡ Ok p → (nat_abs p.figure ≤ 200000000000) × (nat_abs p.allowance ≤ 100000000000)
class_pool_small m t qs p e =
    let none = empty_position t in
    let all = joined_from none qs in
    let a = after_ok (joins m t none qs) (pool_of m t all) p e in
    let b = after_ok (bounded a.0) (λ allowance. and_then (position_figure m Net t all) (λ figure. Ok (record { figure = figure; allowance = allowance }))) p a.2 in
    let c = after_ok (position_figure m Net t all) (λ figure. Ok (record { figure = figure; allowance = b.0 })) p b.2 in
    let made : p ≡ record { figure = c.0; allowance = b.0 } = same_ok (record { figure = c.0; allowance = b.0 }) p c.2 in
    rw made (net_figure_small m t all c.0 c.1, within_limit b.0 a.0 (sym b.1))

-- pieces after pieces
module _ (m : Meaning) (t : Terms) where
  together : (r j s : Result ℤ Fault) → and_then r (λ x. plus x (and_then j (λ y. plus y s))) ≡ and_then (and_then r (λ x. plus x j)) (λ z. plus z s)
  together (Ok x) (Ok y) s = plus_more x y s
  together (Ok x) (Err f) s = refl
  together (Err f) j s = refl

  joins_after : (p : List ℤ) (qs rs : List (List ℤ)) → joins m t p (qs ++ rs) ≡ and_then (joins m t p qs) (λ x. plus x (joins m t (joined_from p qs) rs))
  joins_after p [] rs = sym (plus_none (joins m t p rs))
  joins_after p (q ∷ qs) rs =
      ap (λ j. and_then (allowance_answer m t p q) (λ x. plus x j)) (joins_after (joined p q) qs rs)
      ∙ together (allowance_answer m t p q) (joins m t (joined p q) qs) (joins m t (joined_from (joined p q) qs) rs)

  joined_after : (p : List ℤ) (qs rs : List (List ℤ)) → joined_from p (qs ++ rs) ≡ joined_from (joined_from p qs) rs
  joined_after p [] rs = refl
  joined_after p (q ∷ qs) rs = joined_after (joined p q) qs rs

  module _ (a : ℤ) (p : List ℤ) (qs rs : List (List ℤ)) where
    pub all_stop : (e : Fault) → Err e ≡ joins m t p qs → plus a (joins m t p (qs ++ rs)) ≡ Err e
    all_stop e h = ap (plus a) (joins_after p qs rs ∙ ap (λ r. and_then r (λ x. plus x (joins m t (joined_from p qs) rs))) (sym h))

    module _ (next : List ℤ) (made : next ≡ joined_from p qs) where
      pub all_go : (y : ℤ) → Ok y ≡ joins m t p qs → plus a (joins m t p (qs ++ rs)) ≡ plus (a +ℤ y) (joins m t next rs)
      all_go y h =
          ap (plus a) (joins_after p qs rs ∙ ap (λ r. and_then r (λ x. plus x (joins m t (joined_from p qs) rs))) (sym h))
          ∙ plus_more a y (joins m t (joined_from p qs) rs)
          ∙ ap (λ q. plus (a +ℤ y) (joins m t q rs)) (sym made)

      pub all_joined : joined_from p (qs ++ rs) ≡ joined_from next rs
      all_joined = joined_after p qs rs ∙ ap (λ q. joined_from q rs) (sym made)
