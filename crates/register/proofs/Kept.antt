-- What an entry keeps, and what its answer says.
use Rattle.std.proofs.Common.{◌≡◌, ℕ, zero, suc, ◌+◌, ◌<◌, Bool, true, false, cond, not, ltb, List, [], ◌∷◌, length, take, drop, is_some, is_ok, Some, None, Ok, Err, Result, sym, refl, ap, ◌∙◌, arith}
use Rattle.std.specs.List.{All, insert, prefix_len}
use Rattle.std.specs.Ordering.{is_eq}
use Rattle.std.proofs.lemmas.Bool.{ltb-true, lt-ltb, true≢false}
use Rattle.std.proofs.lemmas.List.Elements.{All-append, All-cons, All-drop, All-same, All-take}
use Rattle.terms.specs.declared.words.Refusal.{Refusal}
use Rattle.terms.specs.declared.words.Refusal.TheVariants.{Twice, Full}
use Rattle.terms.specs.Order.{order}
use Rattle.register.specs.Rows.{entered, Entry, misses, sought, place, answered}

-- ---- what holds of each row, and of the new one
module _ {R : Type 0} (P : R → Type 0) where
  pub all_entered : (r : Result ℕ Refusal) (rows : List R) (row : R) → All P rows → P row → All P (entered r rows row)
  all_entered (Ok i) rows row all one = All-append P (take i rows) (row ∷ drop i rows) (All-take P i rows all) (All-cons P row (drop i rows) one (All-drop P i rows all))
  all_entered (Err e) rows row all one = all

  pub all_after : {rank : R → List ℕ} {limit : ℕ} {old xs : List R} {row : R} {r : Result ℕ Refusal} {new xs' : List R} → Entry rank limit old xs row r new xs' → P row → All P old → All P new
  all_after {old = old} {row = row} {r = r} {new = new} e one all = All-same P new (entered r old row) e.rows (all_entered r old row all one)

-- ---- a key that was found is found again after an entry
front_more : (b : Bool) (n m : ℕ) → n < m → cond b (1 + n) 0 < suc m
front_more true n m h = omega arith
front_more false n m h = omega arith

front_step : (b : Bool) (n m n' m' : ℕ) → (n < m → n' < m') → cond b (1 + n) 0 < suc m → cond b (1 + n') 0 < suc m'
front_step true n m n' m' f h = omega (arith, f (omega arith))
front_step false n m n' m' f h = omega arith

front_inserted : {R : Type 0} (q : R → Bool) (xs : List R) (i : ℕ) (row : R) → prefix_len q xs < length xs → prefix_len q (insert xs i row) < length (insert xs i row)
front_inserted q [] i row h = absurd (omega arith)
front_inserted q (x ∷ xs) zero row h = front_more (q row) (prefix_len q (x ∷ xs)) (length (x ∷ xs)) h
front_inserted q (x ∷ xs) (suc i) row h = front_step (q x) (prefix_len q xs) (length xs) _ _ (front_inserted q xs i row) h

some_is : (b : Bool) (n : ℕ) → is_some (cond b (Some n) None) ≡ b
some_is true n = refl
some_is false n = refl

module _ {R : Type 0} (rank : R → List ℕ) (k : List ℕ) where
  pub known_inserted : (xs : List R) (i : ℕ) (row : R) → is_some (sought rank k xs) ≡ true → is_some (sought rank k (insert xs i row)) ≡ true
  known_inserted xs i row e =
      let lt = ltb-true (misses rank k xs) (length xs) (sym (some_is _ _) ∙ e) in
      some_is _ _ ∙ lt-ltb _ _ (front_inserted (λ x. not (is_eq (order (rank x) k))) xs i row lt)

  pub known_entered : (r : Result ℕ Refusal) (xs : List R) (row : R) → is_some (sought rank k xs) ≡ true → is_some (sought rank k (entered r xs row)) ≡ true
  known_entered (Ok i) xs row e = known_inserted xs i row e
  known_entered (Err d) xs row e = e

-- ---- what an answer says of the rows
module _ {R : Type 0} (rank : R → List ℕ) (most : ℕ) (rows : List R) (row : R) where
  ok_cases : (b c : Bool) (i n : ℕ) → Ok i ≡ cond b (Err Twice) (cond c (Ok n) (Err Full)) → (c ≡ true) × (i ≡ n)
  ok_cases true c i n e = absurd (true≢false (ap is_ok e))
  ok_cases false true i n e = (refl, cc)
  ok_cases false false i n e = absurd (true≢false (ap is_ok e))

  err_cases : (b c : Bool) (d : Refusal) (n : ℕ) → b ≡ false → Err d ≡ cond b (Err Twice) (cond c (Ok n) (Err Full)) → (c ≡ false) × (d ≡ Full)
  err_cases true c d n f e = absurd (true≢false f)
  err_cases false true d n f e = absurd (true≢false (sym (ap is_ok e)))
  err_cases false false d n f e = (refl, cc)

  -- a row that was put in had room, and stands in its place
  pub put_in : (i : ℕ) → Ok i ≡ answered rank most rows row → (ltb (length rows) most ≡ true) × (i ≡ place rank (rank row) rows)
  put_in i e = ok_cases (is_some (sought rank (rank row) rows)) (ltb (length rows) most) i (place rank (rank row) rows) e

  -- a row with a new key that was refused had no room
  pub left_out : (d : Refusal) → is_some (sought rank (rank row) rows) ≡ false → Err d ≡ answered rank most rows row → (ltb (length rows) most ≡ false) × (d ≡ Full)
  left_out d f e = err_cases (is_some (sought rank (rank row) rows)) (ltb (length rows) most) d (place rank (rank row) rows) f e
