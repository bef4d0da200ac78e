-- Pieces joined one after the other: their marks add up, and they are charged no more together than one by one, but for the allowances.
use Rattle.std.proofs.Common.{◌≡◌, pred, ◌+◌, List, [], ◌∷◌, length, ℤ, pos, ◌+ℤ◌, ◌≤ℤ◌, Ok, refl, ap, arith}
use borrow.Author.Differences.{ints}
use Rattle.std.proofs.lemmas.Bool.{and_parts, eqb-true}
use Rattle.terms.specs.declared.words.Basis.TheVariants.{Net}
use Rattle.sheet.specs.declared.rows.Series.{Series}
use Rattle.sheet.specs.Limits.{worth_of}
use Rattle.sheet.specs.Given.{Terms}
use Rattle.charge.specs.Positions.{joined, fits, counts_fit}
use Rattle.charge.specs.Meanings.{Meaning, Lawful}
use Rattle.charge.specs.Replies.{allowance_answer}
use Rattle.charge.specs.Sizes.{add_times}
use Rattle.account.specs.Outcomes.{and_then, bounded, plus}
use Rattle.account.specs.Pieces.{mark, marks}
use Rattle.account.specs.Figures.{position_figure}
use Rattle.account.specs.declared.pools.ClassPool.{ClassPool}
use Rattle.account.specs.Pools.{empty_position, joined_from, joins, class_pool}
use Rattle.account.proofs.Outcomes.{after_ok}
use Rattle.account.proofs.Marks.{zeros}
use Rattle.account.specs.Plain.{charged_of}
use Rattle.account.proofs.Answered.{same_ok, plus_ok, bounded_plain, answer_plain, figure_plain}

pub mark_joined : (rows : List Series) (p q : List ℤ) → length p ≡ length q → mark rows (joined p q) ≡ mark rows p +ℤ mark rows q
mark_joined [] p q e = refl
mark_joined (r ∷ rows) [] [] e = refl
mark_joined (r ∷ rows) [] (n ∷ q) e = absurd (omega arith)
mark_joined (r ∷ rows) (m ∷ p) [] e = absurd (omega arith)
mark_joined (r ∷ rows) (m ∷ p) (n ∷ q) e = omega (arith, ints, add_times m n (pos (worth_of r)), mark_joined rows p q (ap pred e))

-- one join: both positions have one count for each series, and the allowance is the meaning's
pub join_plain : (m : Meaning) (t : Terms) (p q : List ℤ) (z : ℤ) → allowance_answer m t p q ≡ Ok z → (length p ≡ length q) × (z ≡ pos (m.allowed t p q))
join_plain m t p q z e =
    let n = length t.rows in
    let a = answer_plain _ (m.allowed t p q) (m.faulted t p q) m.refuses z e in
    let both = and_parts (fits n p) (fits n q) a.0 in
    let x = eqb-true (length p) n (and_parts _ (counts_fit p) both.0).0 in
    let y = eqb-true (length q) n (and_parts _ (counts_fit q) both.1).0 in
    (omega (arith, x, y), a.1)

-- the first join of several, and the joins after it
joins_more : (m : Meaning) (t : Terms) (p q : List ℤ) (qs : List (List ℤ)) (z : ℤ) → joins m t p (q ∷ qs) ≡ Ok z
    → (x : ℤ) × (y : ℤ) × (allowance_answer m t p q ≡ Ok x) × (joins m t (joined p q) qs ≡ Ok y) × (z ≡ x +ℤ y)
joins_more m t p q qs z e =
    let a = after_ok (allowance_answer m t p q) (λ x. plus x (joins m t (joined p q) qs)) z e in
    let b = plus_ok a.0 (joins m t (joined p q) qs) z a.2 in
    (a.0, b.0, a.1, b.1, b.2)

pub joined_charged : (m : Meaning) → Lawful m → (t : Terms) (p : List ℤ) (qs : List (List ℤ)) (z : ℤ) → joins m t p qs ≡ Ok z
    → pos (m.charged t (joined_from p qs)) ≤ℤ (pos (m.charged t p + charged_of m t qs) +ℤ z)
joined_charged m law t p [] z e = let n : z ≡ pos 0 = same_ok (pos 0) z e in omega (arith, ints, n)
joined_charged m law t p (q ∷ qs) z e =
    let j = joins_more m t p q qs z e in
    let one = join_plain m t p q j.0 j.2 in
    omega (arith, ints, one.1, j.4, law.join t p q one.0, joined_charged m law t (joined p q) qs j.1 j.3)

pub joined_marks : (m : Meaning) (t : Terms) (rows : List Series) (p : List ℤ) (qs : List (List ℤ)) (z : ℤ) → joins m t p qs ≡ Ok z → mark rows (joined_from p qs) ≡ mark rows p +ℤ marks rows qs
joined_marks m t rows p [] z e = omega (arith, ints)
joined_marks m t rows p (q ∷ qs) z e =
    let j = joins_more m t p q qs z e in
    let one = join_plain m t p q j.0 j.2 in
    omega (arith, ints, mark_joined rows p q one.0, joined_marks m t rows (joined p q) qs j.1 j.3)

-- the pool of a class: at most the marks and charges of its pieces one by one, and the allowance
pub class_pool_law : (m : Meaning) → Lawful m → (t : Terms) (qs : List (List ℤ)) (p : ClassPool) → class_pool m t qs ≡ Ok p
    → p.figure ≤ℤ ((marks t.rows qs +ℤ pos (charged_of m t qs)) +ℤ p.allowance)
class_pool_law m law t qs p e =
    let none = empty_position t in
    let pooled = joined_from none qs in
    let a = after_ok (joins m t none qs) (λ x. and_then (bounded x) (λ allowance. and_then (position_figure m Net t pooled) (λ figure. Ok (record { figure = figure; allowance = allowance })))) p e in
    let b = after_ok (bounded a.0) (λ allowance. and_then (position_figure m Net t pooled) (λ figure. Ok (record { figure = figure; allowance = allowance }))) p a.2 in
    let c = after_ok (position_figure m Net t pooled) (λ figure. Ok (record { figure = figure; allowance = b.0 })) p b.2 in
    let made : p ≡ record { figure = c.0; allowance = b.0 } = same_ok (record { figure = c.0; allowance = b.0 }) p c.2 in
    let plain = figure_plain m Net t pooled c.0 c.1 in
    let allowance = bounded_plain a.0 b.0 b.1 in
    omega (arith, ints, ap (λ (x : ClassPool). x.figure) made, ap (λ (x : ClassPool). x.allowance) made, plain, allowance, joined_charged m law t none qs a.0 a.1, joined_marks m t t.rows none qs a.0 a.1, zeros t.rows (length t.rows), law.zero t (length t.rows))
