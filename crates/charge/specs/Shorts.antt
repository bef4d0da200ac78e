-- Short counts row by row: a joined count is short by at most the two.
use Rattle.std.specs.Prelude.{◌≡◌, ℕ, zero, suc, pred, ◌+◌, ◌≤◌, Bool, true, false, cond, List, [], ◌∷◌, length, replicate, ℤ, pos, ◌==◌, refl}
use Rattle.std.proofs.Common.{ap, arith}
use Rattle.terms.specs.Words.{kind_number}
use Rattle.terms.specs.declared.words.Kind.{Kind}
use Rattle.sheet.specs.declared.rows.Series.{Series}
use Rattle.charge.specs.Positions.{joined}
use Rattle.charge.specs.Minimum.{shorts}
use Rattle.charge.specs.Sizes.{down_add}

none_more : (b : Bool) (m : ℕ) → m ≡ 0 → cond b 0 0 + m ≡ 0
none_more true m e = omega arith
none_more false m e = omega arith

pub shorts_zero : (k : Kind) (rows : List Series) (n : ℕ) → shorts k rows (replicate n (pos 0)) ≡ 0
shorts_zero k [] n = refl
shorts_zero k (r ∷ rows) zero = refl
shorts_zero k (r ∷ rows) (suc n) = none_more (kind_number r.key.kind == kind_number k) _ (shorts_zero k rows n)

each_more : (b : Bool) (x y z m n o : ℕ) → x ≤ y + z → m ≤ n + o → cond b x 0 + m ≤ (cond b y 0 + n) + (cond b z 0 + o)
each_more true x y z m n o h k = omega arith
each_more false x y z m n o h k = omega arith

pub shorts_join : (k : Kind) (rows : List Series) (p q : List ℤ) → length p ≡ length q → shorts k rows (joined p q) ≤ shorts k rows p + shorts k rows q
shorts_join k [] p q e = omega arith
shorts_join k (r ∷ rows) [] [] e = omega arith
shorts_join k (r ∷ rows) [] (n ∷ q) e = absurd (omega arith)
shorts_join k (r ∷ rows) (m ∷ p) [] e = absurd (omega arith)
shorts_join k (r ∷ rows) (m ∷ p) (n ∷ q) e = each_more (kind_number r.key.kind == kind_number k) _ _ _ _ _ _ (down_add m n) (shorts_join k rows p q (ap pred e))
