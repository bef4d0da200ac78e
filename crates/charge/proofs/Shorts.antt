-- The short counts of a kind, picked out and added up.
use Rattle.std.proofs.Common.{◌≡◌, ℕ, ◌+◌, ◌*◌, ◌≤◌, Bool, ◌&&◌, true, false, cond, List, [], ◌∷◌, suc, map, length, pos, negsuc, ℤ, ◌==◌, nat_abs, int_lt, sum, filter, refl, ◌∙◌, arith}
use denote.Enum.Bare.{sameb}
use borrow.Author.Differences.{down}
use Rattle.std.specs.List.{zip}
use Rattle.std.proofs.lemmas.Bool.{cond_both}
use Rattle.std.proofs.lemmas.Bool.Decides.{nat_tests}
use Rattle.std.proofs.lemmas.List.Sums.{sum_by-cons}
use Rattle.terms.specs.contracts.words.Kind.{the_type}
use Rattle.terms.specs.declared.words.Kind.TheVariants.{Call, Put}
use Rattle.terms.specs.Words.{kind_number}
use Rattle.terms.specs.declared.words.Kind.{Kind}
use Rattle.sheet.specs.Limits.{Within}
use Rattle.sheet.specs.declared.rows.Series.{Series}
use Rattle.charge.specs.Minimum.{shorts}

-- a short count of the kind
abbrev pub is_short : Kind → ℤ × Series → Bool
is_short k x = int_lt x.0 (pos 0) && (kind_number x.1.key.kind == kind_number k)

-- two kinds are told apart by their numbers
pub same_kinds : (a b : Kind) → sameb the_type a b ≡ (kind_number a == kind_number b)
same_kinds Call Call = refl
same_kinds Call Put = refl
same_kinds Put Call = refl
same_kinds Put Put = refl

-- without its sign
abbrev pub size : ℤ × Series → ℕ
size x = nat_abs x.0

pub shorts_picked : (k : Kind) (rows : List Series) (p : List ℤ) → sum (map size (filter (is_short k) (zip p rows))) ≡ shorts k rows p
shorts_picked k [] [] = refl
shorts_picked k [] (n ∷ p) = refl
shorts_picked k (r ∷ rows) [] = refl
shorts_picked k (r ∷ rows) (n ∷ p) = step (int_lt n (pos 0)) (kind_number r.key.kind == kind_number k) n r (filter (is_short k) (zip p rows)) _ (short n) (shorts_picked k rows p)
  where
    short : (z : ℤ) → cond (int_lt z (pos 0)) (nat_abs z) 0 ≡ down z
    short (pos z) = grind (arith, nat_tests)
    short (negsuc z) = refl

    step : (short same : Bool) (n : ℤ) (r : Series) (xs : List (ℤ × Series)) (m : ℕ) → cond short (nat_abs n) 0 ≡ down n → sum (map size xs) ≡ m → sum (map size (cond (short && same) ((n, r) ∷ xs) xs)) ≡ cond same (down n) 0 + m
    step true true n r xs m d e = sum_by-cons (λ y. y) (nat_abs n) (map size xs) ∙ omega arith
    step true false n r xs m d e = omega arith
    step false true n r xs m d e = omega arith
    step false false n r xs m d e = omega arith

down_size : (z : ℤ) → down z ≤ nat_abs z
down_size (pos n) = omega arith
down_size (negsuc n) = omega arith

pub shorts_bound : (k : Kind) (rows : List Series) (p : List ℤ) → Within 3200000 p → shorts k rows p ≤ length rows * 3200000
shorts_bound k [] p w = omega arith
shorts_bound k (r ∷ rows) [] w = omega arith
shorts_bound k (r ∷ rows) (n ∷ p) w = cond_both (kind_number r.key.kind == kind_number k) (down n) 0 (λ x. x + shorts k rows p ≤ length (r ∷ rows) * 3200000) (λ e. let h : nat_abs n ≤ 3200000 = w 0 in omega (arith, down_size n, shorts_bound k rows p (λ i. w (suc i)))) (λ e. omega (arith, shorts_bound k rows p (λ i. w (suc i))))
