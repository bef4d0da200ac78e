-- Counts and marks are formed from the front; the marks of single series add up to the mark of them all.
use Rattle.std.proofs.Common.{◌≡◌, ℕ, zero, suc, ◌≤◌, List, [], ◌∷◌, map, length, replicate, ℤ, pos, ◌+ℤ◌, ◌*ℤ◌, neg_ℤ, nat_abs, refl, ap, ◌∙◌, add-one, arith}
use borrow.Author.Differences.{ints}
use lib.IntN.{+ℤ_idl, +ℤ_idr, zero-*ℤ}
use Rattle.std.specs.List.{range_with_len}
use Rattle.terms.specs.declared.words.Basis.{Basis}
use Rattle.terms.specs.declared.words.Basis.TheVariants.{Net, Gross}
use Rattle.sheet.specs.declared.rows.Series.{Series}
use Rattle.sheet.specs.Limits.{worth_of, Within}
use Rattle.account.specs.Pieces.{margined, margined_counts, single, pieces, mark, marks, Small, Held}

-- limits
pub length_margined : (b : Basis) (ls ss : List ℕ) → length ls ≡ length ss → length (margined_counts b ls ss) ≡ length ls
length_margined b [] ss e = refl
length_margined b (l ∷ ls) [] e = absurd (omega arith)
length_margined b (l ∷ ls) (s ∷ ss) e = ap suc (length_margined b ls ss (omega arith))

margined_small : (b : Basis) (l s : ℕ) → l ≤ 100000 → s ≤ 100000 → nat_abs (margined b l s) ≤ 100000
margined_small Net l s p q = omega (arith, ints)
margined_small Gross l s p q = omega (arith, ints)

pub counts_within : (b : Basis) (ls ss : List ℕ) → Held ls ss → Within 100000 (margined_counts b ls ss)
counts_within b [] ss h k = omega arith
counts_within b (l ∷ ls) [] h k = omega arith
counts_within b (l ∷ ls) (s ∷ ss) h zero = margined_small b l s (h 0).0 (h 0).1
counts_within b (l ∷ ls) (s ∷ ss) h (suc k) = counts_within b ls ss (λ j. h (suc j)) k

pub counts_small : (b : Basis) (ls ss : List ℕ) → Held ls ss → Small (margined_counts b ls ss)
counts_small b ls ss h k = omega (arith, counts_within b ls ss h k)

-- a gross account: the marks of the pieces add up to the mark of the counts
nothing : (z : ℤ) (r : Series) → neg_ℤ (pos 0 *ℤ pos (worth_of r)) +ℤ z ≡ z
nothing z r = ap (λ x. neg_ℤ x +ℤ z) (zero-*ℤ (pos (worth_of r))) ∙ +ℤ_idl z

pub zeros : (rows : List Series) (n : ℕ) → mark rows (replicate n (pos 0)) ≡ pos 0
zeros [] n = refl
zeros (r ∷ rs) zero = refl
zeros (r ∷ rs) (suc n) = nothing (mark rs (replicate n (pos 0))) r ∙ zeros rs n

shifted : (r : Series) (rs : List Series) (c : ℤ) (cs : List ℤ) (a n : ℕ) → marks (r ∷ rs) (map (single (c ∷ cs)) (range_with_len (suc a) n)) ≡ marks rs (map (single cs) (range_with_len a n))
shifted r rs c cs a zero = refl
shifted r rs c cs a (suc n) = rw (add-one (suc a), add-one a) (ap (λ x. x +ℤ marks (r ∷ rs) (map (single (c ∷ cs)) (range_with_len (suc (suc a)) n))) (nothing (mark rs (single cs a)) r) ∙ ap (λ x. mark rs (single cs a) +ℤ x) (shifted r rs c cs (suc a) n))

none : (cs : List ℤ) (ps : List ℕ) → marks [] (map (single cs) ps) ≡ pos 0
none cs [] = refl
none cs (p ∷ ps) = +ℤ_idl (marks [] (map (single cs) ps)) ∙ none cs ps

gross_marks : (rows : List Series) (cs : List ℤ) → marks rows (pieces Gross cs) ≡ mark rows cs
gross_marks [] cs = none cs (range_with_len 0 (length cs))
gross_marks (r ∷ rs) [] = refl
gross_marks (r ∷ rs) (c ∷ cs) =
    let m : ℤ = neg_ℤ (c *ℤ pos (worth_of r)) in
    ap (λ x. (m +ℤ x) +ℤ marks (r ∷ rs) (map (single (c ∷ cs)) (range_with_len 1 (length cs)))) (zeros rs (length cs))
    ∙ ap (λ x. x +ℤ marks (r ∷ rs) (map (single (c ∷ cs)) (range_with_len 1 (length cs)))) (+ℤ_idr m)
    ∙ ap (λ x. m +ℤ x) (shifted r rs c cs 0 (length cs) ∙ gross_marks rs cs)

pub marks_of_pieces : (b : Basis) (rows : List Series) (cs : List ℤ) → marks rows (pieces b cs) ≡ mark rows cs
marks_of_pieces Net rows cs = +ℤ_idr (mark rows cs)
marks_of_pieces Gross rows cs = gross_marks rows cs
