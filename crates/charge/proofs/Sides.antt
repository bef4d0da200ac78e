-- The two totals, series by series; and of one month, one of them is 0.
use Rattle.std.proofs.Common.{◌≡◌, ℕ, ◌+◌, ◌*◌, ◌≤◌, min, true, false, ◌||◌, refl, List, [], ◌∷◌, zero, suc, take, length, add-one, zero-mul, ℤ, nat_abs, Option, unwrap_or, ap, ⊎_elim, arith}
use borrow.Author.Differences.{up, down, ints}
use Rattle.std.proofs.lemmas.Bool.{eq-eqb}
use Rattle.sheet.specs.declared.rows.Series.{Series}
use Rattle.charge.specs.Laws.{OfMonth}
use Rattle.charge.specs.Sizes.{one_part}
use Rattle.charge.specs.Spread.{month_delta, month_at, seen, long, short, spread}

-- one more series: a month that was told before adds nothing
module _ (rows : List Series) (p : List ℤ) (i m : ℕ) (at : month_at i rows ≡ m) where
  told_before : seen m (take i rows) ≡ true → (long (i + 1) rows p ≡ long i rows p) × (short (i + 1) rows p ≡ short i rows p)
  unfolding long short
  told_before e = (rw (add-one, at, e) (omega arith), rw (add-one, at, e) (omega arith))

  told_first : seen m (take i rows) ≡ false → (long (i + 1) rows p ≡ long i rows p + up (month_delta m rows p)) × (short (i + 1) rows p ≡ short i rows p + down (month_delta m rows p))
  unfolding long short
  told_first e = (rw (add-one, at, e), rw (add-one, at, e))

-- the two totals over the months of the first i series
pub record Sides (rows : List Series) (p : List ℤ) (i longs shorts : ℕ) : Type 0 where
  pub longs_is : longs ≡ long i rows p
  pub shorts_is : shorts ≡ short i rows p
  pub bound : longs + shorts ≤ 40960000000 * i

pub sides_none : (rows : List Series) (p : List ℤ) → Sides rows p 0 0 0
unfolding long short
sides_none rows p = record { longs_is = refl; shorts_is = refl; bound = omega arith }

module _ (rows : List Series) (p : List ℤ) (i m longs shorts : ℕ) (sides : Sides rows p i longs shorts) (at : month_at i rows ≡ m) where
  pub sides_as_before : seen m (take i rows) ≡ true → Sides rows p (i + 1) longs shorts
  sides_as_before e =
      let t = told_before rows p i m at e in
      record { longs_is = omega arith; shorts_is = omega arith; bound = omega arith }

  pub sides_more : seen m (take i rows) ≡ false → nat_abs (month_delta m rows p) ≤ 40960000000 → Sides rows p (i + 1) (longs + up (month_delta m rows p)) (shorts + down (month_delta m rows p))
  sides_more e small =
      let t = told_first rows p i m at e in
      let part = one_part (month_delta m rows p) in
      record { longs_is = omega arith; shorts_is = omega arith; bound = omega (arith, ints) }

-- a class of one month: its first series tells the month, no later one does
module _ (m : ℕ) (r : Series) (rest : List Series) (h : OfMonth m (r ∷ rest)) (p : List ℤ) where
  told : (i : ℕ) → seen m (take (suc i) (r ∷ rest)) ≡ true
  told i = ap (λ b. b || seen m (take i rest)) (eq-eqb r.key.month m (h 0 (omega arith)))

  sides_one : (i : ℕ) → i ≤ length (r ∷ rest) → (long i (r ∷ rest) p ≤ up (month_delta m (r ∷ rest) p)) × (short i (r ∷ rest) p ≤ down (month_delta m (r ∷ rest) p))
  sides_one zero l = let n = sides_none (r ∷ rest) p in (omega arith, omega arith)
  sides_one (suc zero) l =
      let n = sides_none (r ∷ rest) p in
      let s = told_first (r ∷ rest) p 0 m (h 0 (omega arith)) refl in
      (omega arith, omega arith)
  sides_one (suc (suc i)) l =
      let n = sides_one (suc i) (omega arith) in
      let s = rw add-one at (told_before (r ∷ rest) p (suc i) m (h (suc i) (omega arith)) (told i)) in
      (omega arith, omega arith)

pub spread_one : (rate : Option ℕ) (m : ℕ) (rows : List Series) → OfMonth m rows → (p : List ℤ) → spread rate rows p ≡ 0
spread_one rate m [] h p =
    let n = sides_none [] p in
    let e : min (long 0 [] p) (short 0 [] p) ≡ 0 = omega arith in
    rw e (zero-mul (unwrap_or rate 0))
spread_one rate m (r ∷ rest) h p =
    let rows = r ∷ rest in
    let s = sides_one m r rest h p (length rows) (omega arith) in
    let e : min (long (length rows) rows p) (short (length rows) rows p) ≡ 0 = ⊎_elim (λ z. omega arith) (λ z. omega arith) (one_part (month_delta m rows p)) in
    rw e (zero-mul (unwrap_or rate 0))
