-- The two totals row by row: joined, neither grows beyond the two, and their difference is the sum of the differences.
use Rattle.std.specs.Prelude.{◌≡◌, ℕ, zero, suc, ◌+◌, ◌-◌, ◌≤◌, min, max, Bool, true, false, cond, List, map, length, take, replicate, ℤ, pos, ◌+ℤ◌, ◌-ℤ◌, Option}
use Rattle.std.proofs.Math.Path.{refl}
use Rattle.std.proofs.Common.{⊎_elim, zero-mul}
use native.Mathlib.Omega.{arith}
use borrow.Author.Differences.{up, down, ints}
use Rattle.std.specs.Option.{unwrap_or}
use Rattle.sheet.specs.declared.rows.Series.{Series}
use Rattle.charge.specs.Positions.{joined}
use Rattle.charge.specs.Spread.{month_delta_of, month_delta, seen, month_at, long, short, lean, spread, spread_allowance}
use Rattle.charge.specs.Sizes.{one_part, up_add, rated}
use Rattle.charge.specs.Dots.{dot_zero, dot_joined}

-- one more row: with a month told before, or with a new one
sides_step : (b : Bool) (J P Q : ℤ) (lj sj lp sp lq sq : ℕ) → J ≡ P +ℤ Q → lj ≤ lp + lq → lj + sp + sq ≡ sj + lp + lq →
    (lj + cond b 0 (up J) ≤ (lp + cond b 0 (up P)) + (lq + cond b 0 (up Q)))
    × ((lj + cond b 0 (up J)) + (sp + cond b 0 (down P)) + (sq + cond b 0 (down Q)) ≡ (sj + cond b 0 (down J)) + (lp + cond b 0 (up P)) + (lq + cond b 0 (up Q)))
sides_step true J P Q lj sj lp sp lq sq e h k = (omega arith, omega arith)
sides_step false J P Q lj sj lp sp lq sq e h k = let u = up_add P Q in (omega (arith, ints), omega (arith, ints))

module _ (rows : List Series) where
  pub month_zero : (m n : ℕ) → month_delta m rows (replicate n (pos 0)) ≡ pos 0
  unfolding month_delta
  month_zero m n = dot_zero (map (month_delta_of m) rows) n

  pub month_joined : (m : ℕ) (p q : List ℤ) → length p ≡ length q → month_delta m rows (joined p q) ≡ month_delta m rows p +ℤ month_delta m rows q
  unfolding month_delta
  month_joined m p q e = dot_joined (map (month_delta_of m) rows) p q e

  pub long_zero : (i n : ℕ) → long i rows (replicate n (pos 0)) ≡ 0
  unfolding long
  long_zero zero n = refl
  long_zero (suc i) n = rw (long_zero i n, month_zero (month_at i rows) n) (by (seen (month_at i rows) (take i rows)))
    where
      by : (b : Bool) → 0 + cond b 0 0 ≡ 0
      by true = refl
      by false = refl

  -- the sides of two positions joined: neither grows beyond the two, and the lean is the sum of the leans
  pub sides_join : (i : ℕ) (p q : List ℤ) → length p ≡ length q → (long i rows (joined p q) ≤ long i rows p + long i rows q)
      × (long i rows (joined p q) + short i rows p + short i rows q ≡ short i rows (joined p q) + long i rows p + long i rows q)
  unfolding long short
  sides_join zero p q e = (omega arith, omega arith)
  sides_join (suc i) p q e =
      let h = sides_join i p q e in
      sides_step (seen (month_at i rows) (take i rows)) _ _ _ _ _ _ _ _ _ (month_joined (month_at i rows) p q e) h.0 h.1

-- the smaller total is half of what both totals exceed the lean by: in numbers
pub sides_law : (lj sj lp sp lq sq : ℕ) → lj ≤ lp + lq → lj + sp + sq ≡ sj + lp + lq →
    min lj sj ≤ min lp sp + min lq sq + max (min (lp - sp) (sq - lq)) (min (sp - lp) (lq - sq))
sides_law lj sj lp sp lq sq h e = omega arith

pub lean_parts : (l s : ℕ) → (up (pos l -ℤ pos s) ≡ l - s) × (down (pos l -ℤ pos s) ≡ s - l)
lean_parts l s = ⊎_elim (λ e. (omega (arith, ints), omega (arith, ints))) (λ e. (omega (arith, ints), omega (arith, ints))) (one_part (pos l -ℤ pos s))

pub spread_zero : (rate : Option ℕ) (rows : List Series) (n : ℕ) → spread rate rows (replicate n (pos 0)) ≡ 0
spread_zero rate rows n = let e : min (long (length rows) rows (replicate n (pos 0))) (short (length rows) rows (replicate n (pos 0))) ≡ 0 = omega (arith, long_zero rows (length rows) n) in rw e (zero-mul (unwrap_or rate 0))

pub spread_join : (rate : Option ℕ) (rows : List Series) (p q : List ℤ) → length p ≡ length q →
    spread rate rows (joined p q) ≤ spread rate rows p + spread rate rows q + spread_allowance rate rows p q
unfolding lean
spread_join rate rows p q e =
    let n = length rows in
    let h = sides_join rows n p q e in
    let law = sides_law (long n rows (joined p q)) (short n rows (joined p q)) (long n rows p) (short n rows p) (long n rows q) (short n rows q) h.0 h.1 in
    rated _ _ _ _ (unwrap_or rate 0) (omega (arith, law, lean_parts (long n rows p) (short n rows p), lean_parts (long n rows q) (short n rows q)))
