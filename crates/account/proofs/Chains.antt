-- Signed numbers added up by a chain: the class figures of a currency, which are picked out, and the marks of a position's series.
use Rattle.std.proofs.Common.{◌≡◌, ℕ, zero, suc, ◌+◌, ◌*◌, ◌^◌, ◌<◌, ◌≤◌, Bool, true, false, cond, List, [], ◌∷◌, map, filter, length, get_or, take, ℤ, pos, ◌+ℤ◌, ◌*ℤ◌, neg_ℤ, nat_abs, Option, FitsSigned, w64, sym, ◌∙◌, subst, arith}
use borrow.Author.Differences.{ints}
use lib.IntN.{+ℤ_idr}
use Rattle.std.specs.List.{zip, fold}
use Rattle.std.specs.Iterator.{Yields}
use Rattle.std.specs.Iterator.Runs.{EachRunFrom, YieldsRun}
use Rattle.std.proofs.lemmas.Iterator.{YieldsList}
use Rattle.std.proofs.lemmas.Iterator.Consumers.{YieldsList-so_far}
use Rattle.std.proofs.lemmas.List.{map-id}
use Rattle.std.proofs.lemmas.Int.{unsigned_abs-mul}
use Rattle.std.proofs.lemmas.Nat.{mul-le}
use Rattle.terms.specs.declared.words.Currency.{Currency}
use Rattle.sheet.specs.declared.rows.Series.{Series}
use Rattle.sheet.specs.Limits.{worth_of, Worthy}
use Rattle.account.specs.Pieces.{mark, Small}
use Rattle.sheet.specs.declared.rows.ClassRow.{ClassRow}
use Rattle.account.specs.Figures.{Bounded}
use Rattle.account.specs.Sums.{same_currency, sum_of}
use Rattle.account.proofs.Kit.{small_fits, abs_add}

-- each run of a chain adds up what stands before some place of its list
pub runs_fit : {S : Type 0} {steps : S → Option ℤ → S → Type 0} (s : S) (all : List ℤ) → ((n : ℕ) → nat_abs (fold ◌+ℤ◌ (pos 0) (take n all)) < 2 ^ 63) → YieldsList steps (λ x. x) s all → EachRunFrom steps s (λ p. FitsSigned w64 (fold ◌+ℤ◌ (pos 0) p.items))
unfolding YieldsRun
runs_fit {S} {steps} s all small road = λ p _ at.
    let front = sym (map-id p.items) ∙ YieldsList-so_far road p.items p.gave.0.0 (subst (λ u. Yields steps u p.items p.gave.0.0) at p.gave.0.1) in
    small_fits _ (rw front (small (length p.items)))

-- a class of the currency, and its figure
abbrev pub is_of : Currency → ClassRow × ℤ → Bool
is_of c x = same_currency x.0.currency c

abbrev pub figure : ClassRow × ℤ → ℤ
figure x = x.1

abbrev pub picked : Currency → List ClassRow → List ℤ → List ℤ
picked c ks zs = map figure (filter (is_of c) (zip ks zs))

-- they add up to the currency's sum
pub picked_sum : (c : Currency) (ks : List ClassRow) (zs : List ℤ) (a : ℤ) → fold ◌+ℤ◌ a (picked c ks zs) ≡ a +ℤ sum_of c ks zs
picked_sum c [] zs a = sym (+ℤ_idr a)
picked_sum c (k ∷ ks) [] a = sym (+ℤ_idr a)
picked_sum c (k ∷ ks) (z ∷ zs) a = step (same_currency k.currency c) k z (filter (is_of c) (zip ks zs)) _ (picked_sum c ks zs)
  where
    step : (same : Bool) (k : ClassRow) (z : ℤ) (xs : List (ClassRow × ℤ)) (m : ℤ) → ((b : ℤ) → fold ◌+ℤ◌ b (map figure xs) ≡ b +ℤ m) → fold ◌+ℤ◌ a (map figure (cond same ((k, z) ∷ xs) xs)) ≡ a +ℤ (cond same z (pos 0) +ℤ m)
    step true k z xs m e = omega (arith, ints, e (a +ℤ z))
    step false k z xs m e = omega (arith, ints, e a)

-- the sum of no more than those up to a place is small
pub picked_small : (c : Currency) (ks : List ClassRow) (zs : List ℤ) (n : ℕ) (a : ℤ) → Bounded zs → nat_abs (fold ◌+ℤ◌ a (take n (picked c ks zs))) ≤ nat_abs a + length ks * 12900000000000
picked_small c [] zs zero a w = omega arith
picked_small c [] zs (suc n) a w = omega arith
picked_small c (k ∷ ks) [] zero a w = omega arith
picked_small c (k ∷ ks) [] (suc n) a w = omega arith
picked_small c (k ∷ ks) (z ∷ zs) n a w = step (same_currency k.currency c) n (w 0) (λ m b. picked_small c ks zs m b (λ i. w (suc i)))
  where
    step : (same : Bool) (n : ℕ) → nat_abs z ≤ 12900000000000 → ((m : ℕ) (b : ℤ) → nat_abs (fold ◌+ℤ◌ b (take m (map figure (filter (is_of c) (zip ks zs))))) ≤ nat_abs b + length ks * 12900000000000)
        → nat_abs (fold ◌+ℤ◌ a (take n (map figure (cond same ((k, z) ∷ filter (is_of c) (zip ks zs)) (filter (is_of c) (zip ks zs)))))) ≤ nat_abs a + length (k ∷ ks) * 12900000000000
    step true zero h ih = omega arith
    step true (suc n) h ih = omega (arith, h, abs_add a z, ih n (a +ℤ z))
    step false n h ih = omega (arith, ih n a)

-- the mark of a row's count
abbrev pub mark_line : Series × ℤ → ℤ
mark_line x = neg_ℤ (x.1 *ℤ pos (worth_of x.0))

-- a row and its count at one place are within their limits
pub mark_limited : (rows : List Series) (cs : List ℤ) → Worthy rows → Small cs → (k : ℕ) (d x : Series × ℤ) → k < length (zip rows cs) → x ≡ get_or (zip rows cs) k d → (worth_of x.0 ≤ 10000000) × (nat_abs x.1 ≤ 3200000)
mark_limited [] cs w h k d x q e = absurd (omega arith)
mark_limited (r ∷ rows) [] w h k d x q e = absurd (omega arith)
mark_limited (r ∷ rows) (c ∷ cs) w h zero d x q e = rw e (w 0, h 0)
mark_limited (r ∷ rows) (c ∷ cs) w h (suc k) d x q e = mark_limited rows cs (λ i. w (suc i)) (λ i. h (suc i)) k d x (omega arith) e

pub mark_lines : (rows : List Series) (cs : List ℤ) (a : ℤ) → fold ◌+ℤ◌ a (map mark_line (zip rows cs)) ≡ a +ℤ mark rows cs
mark_lines [] cs a = sym (+ℤ_idr a)
mark_lines (r ∷ rows) [] a = sym (+ℤ_idr a)
mark_lines (r ∷ rows) (c ∷ cs) a = omega (arith, ints, mark_lines rows cs (a +ℤ mark_line (r, c)))

line_small : (r : Series) (c : ℤ) → worth_of r ≤ 10000000 → nat_abs c ≤ 3200000 → nat_abs (mark_line (r, c)) ≤ 32000000000000
line_small r c w h = let m = mul-le (nat_abs c) (worth_of r) 3200000 10000000 h w in omega (arith, ints, m, unsigned_abs-mul c (pos (worth_of r)))

pub marks_small : (n : ℕ) (rows : List Series) (cs : List ℤ) (a : ℤ) → Worthy rows → Small cs → nat_abs (fold ◌+ℤ◌ a (take n (map mark_line (zip rows cs)))) ≤ nat_abs a + length rows * 32000000000000
marks_small zero rows cs a w h = omega arith
marks_small (suc n) [] cs a w h = omega arith
marks_small (suc n) (r ∷ rows) [] a w h = omega arith
marks_small (suc n) (r ∷ rows) (c ∷ cs) a w h =
    let z : ℤ = mark_line (r, c) in
    omega (arith, line_small r c (w 0) (h 0), abs_add a z, marks_small n rows cs (a +ℤ z) (λ i. w (suc i)) (λ i. h (suc i)))
