-- The minimum charge: short counts at the minimum rate.
use Rattle.std.specs.Prelude.{ℕ, ◌+◌, ◌*◌, max, cond, List, [], ◌∷◌, ℤ, ◌==◌}
use borrow.Author.Differences.{down}
use Rattle.terms.specs.Words.{kind_number}
use Rattle.terms.specs.declared.words.Kind.{Kind}
use Rattle.terms.specs.declared.words.Kind.TheVariants.{Call, Put}
use Rattle.sheet.specs.declared.rows.Series.{Series}

-- the short counts of a kind, added without sign
abbrev pub shorts : Kind → List Series → List ℤ → ℕ
shorts k [] p = 0
shorts k (r ∷ rows) [] = 0
shorts k (r ∷ rows) (n ∷ p) = cond (kind_number r.key.kind == kind_number k) (down n) 0 + shorts k rows p

-- amount: the greater of the calls' and the puts' sum × minimum rate
abbrev pub least : ℕ → List Series → List ℤ → ℕ
least rate rows p = max (shorts Call rows p) (shorts Put rows p) * rate
