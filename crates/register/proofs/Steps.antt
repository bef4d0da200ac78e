-- A row is put in its place in the lent memory.
use Rattle.std.proofs.Common.{◌≡◌, ℕ, zero, suc, ◌+◌, ◌-◌, ◌<◌, ◌≤◌, min, true, false, ltb, List, [], ◌∷◌, ◌++◌, length, take, drop, set, is_some, Ok, sym, ap, ◌∙◌, refl, arith, length-append, length-drop, length-take-le}
use lib.Seq.{paste}
use Rattle.std.proofs.lemmas.List.{take_at, drop_at}
use Rattle.std.proofs.lemmas.List.Edits.{length-insert}
use Rattle.std.proofs.lemmas.List.Sums.{prefix_len-le-length}
use Rattle.std.proofs.lemmas.Bool.{cond-true, cond-false, ltb-true}
use Rattle.std.specs.List.{insert}
use Rattle.std.specs.Ordering.{is_lt}
use Rattle.terms.specs.Order.{order}
use Rattle.register.specs.Rows.{place, sought, Ascending, Entry}
use Rattle.register.proofs.Order.{ascending_inserted}

module _ {R : Type 0} where
  -- the rows from a place on are copied up by one, and the new one is written there
  pub moved_up : (xs : List R) (n i : ℕ) (row : R) → i ≤ n → n < length xs → set (paste xs (i + 1) (drop i xs) (n - i)) i row ≡ insert (take n xs) i row ++ drop (n + 1) xs
  moved_up [] n i row le lt = absurd (omega arith)
  moved_up (x ∷ xs) n zero row le lt =
      let all : n - 0 ≡ n = omega arith in
      let next : 1 + n ≡ n + 1 = omega arith in
      rw (all, next) refl
  moved_up (x ∷ xs) zero (suc i) row le lt = absurd (omega arith)
  moved_up (x ∷ xs) (suc n) (suc i) row le lt =
      let up : suc i + 1 ≡ suc (i + 1) = omega arith in
      let many : suc n - suc i ≡ n - i = omega arith in
      let past : suc (i + 1) + (n - i) ≡ suc (i + 1 + (n - i)) = omega arith in
      let next : suc n + 1 ≡ suc (n + 1) = omega arith in
      rw (up, many, past, next) (ap (λ l. x ∷ l) (moved_up xs n i row (omega arith) (omega arith)))

-- ---- an entry that is not refused
module _ {R : Type 0} (rank : R → List ℕ) (limit n i : ℕ) (xs xs' : List R) (row : R) (within : n ≤ length xs) (at : i ≡ place rank (rank row) (take n xs)) where
  short : length (take n xs) ≡ n
  short = length-take-le n xs within

  pub place_within : i ≤ n
  place_within = omega (arith, at, short, prefix_len-le-length (λ x. is_lt (order (rank x) (rank row))) (take n xs))

  module _ (free : is_some (sought rank (rank row) (take n xs)) ≡ false) (room : true ≡ ltb (length (take n xs)) (min limit (length xs))) (moved : xs' ≡ insert (take n xs) i row ++ drop (n + 1) xs) where
    below : n < min limit (length xs)
    below = omega (arith, short, ltb-true _ _ (sym room))

    opened : length (insert (take n xs) i row) ≡ n + 1
    opened = omega (arith, short, length-insert (take n xs) i row (omega (arith, short, place_within)))

    new_rows : take (n + 1) xs' ≡ insert (take n xs) i row
    new_rows = rw moved (take_at (insert (take n xs) i row) (drop (n + 1) xs) (n + 1) opened)

    spare_rows : drop (n + 1) xs' ≡ drop (n + 1) xs
    spare_rows = rw moved (drop_at (insert (take n xs) i row) (drop (n + 1) xs) (n + 1) opened)

    same_room : length xs' ≡ length xs
    same_room = rw moved (omega (arith, opened, below, length-append (insert (take n xs) i row) (drop (n + 1) xs), length-drop (n + 1) xs))

    pub still_sorted : Ascending rank (take n xs) → Ascending rank (take (n + 1) xs')
    still_sorted up = rw (new_rows, at) (ascending_inserted rank (take n xs) row free up)

    pub put_in_place : Entry rank limit (take n xs) xs row (Ok i) (take (n + 1) xs') xs'
    put_in_place =
        let many : length (take (n + 1) xs') ≡ suc n = rw new_rows (omega (arith, opened)) in
        let next : suc n ≡ n + 1 = omega arith in
        record {
          answer = ap Ok at ∙ sym (cond-false _ _ _ free ∙ cond-true _ _ _ (sym room));
          rows = new_rows;
          spare = rw (many, next) spare_rows;
          room = same_room;
          count = many ∙ ap suc (sym short);
          most = λ h. omega (arith, many, below);
        }
