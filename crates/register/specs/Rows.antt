-- Rows in ascending order of their rank, a list of numbers.
use Rattle.std.specs.Prelude.{◌≡◌, ◌&&◌, Bool, true, [], ℕ, suc, ◌<◌, ◌≤◌, min, cond, not, List, ◌∷◌, length, drop, is_some, Some, None, Ok, Err, Option, Result, ◌≢◌, nat_lt, slice_index_or}
use Rattle.terms.specs.declared.words.Refusal.{Refusal}
use Rattle.terms.specs.declared.words.Refusal.TheVariants.{Twice, Full}
use Rattle.terms.specs.Order.{order}
use Rattle.std.specs.declared.cmp.Ordering.{Ordering}
use Rattle.std.specs.Ordering.{is_lt, is_eq}
use Rattle.std.specs.List.{insert, list_all, prefix_len}
use Rattle.std.specs.List.Sorted.{IsStrictlySortedBy, IsStrictlySortedBy-prop}

-- each row is before those after it
abbrev pub Ascending : {R : Type 0} → (R → List ℕ) → List R → Type 0
Ascending rank rows = IsStrictlySortedBy (λ a b. order (rank a) (rank b)) rows

pub Ascending-prop : {R : Type 0} (rank : R → List ℕ) (rows : List R) → IsProp (Ascending rank rows)
Ascending-prop rank rows = IsStrictlySortedBy-prop (λ a b. order (rank a) (rank b)) rows

-- whether each element is below those after it: the test of that fact
abbrev pub is_strictly_sorted_by : {K : Type 0} → (K → K → Ordering) → List K → Bool
is_strictly_sorted_by c [] = true
is_strictly_sorted_by c (x ∷ xs) = list_all (λ y. is_lt (c x y)) xs && is_strictly_sorted_by c xs

-- how many rows stand before the key: where a row with this key has its place
abbrev pub place : {R : Type 0} → (R → List ℕ) → List ℕ → List R → ℕ
place rank k rows = prefix_len (λ x. is_lt (order (rank x) k)) rows

-- how many rows stand before the first that has the key
abbrev pub misses : {R : Type 0} → (R → List ℕ) → List ℕ → List R → ℕ
misses rank k rows = prefix_len (λ x. not (is_eq (order (rank x) k))) rows

-- the place of the first row that has the key
abbrev pub sought : {R : Type 0} → (R → List ℕ) → List ℕ → List R → Option ℕ
sought rank k rows = cond (nat_lt (misses rank k rows) (length rows)) (Some (misses rank k rows)) None

-- what an entry answers: the row's place; refused Twice where a row has its key, else Full where the rows are `most` already
abbrev pub answered : {R : Type 0} → (R → List ℕ) → ℕ → List R → R → Result ℕ Refusal
answered rank most rows row = cond (is_some (sought rank (rank row) rows)) (Err Twice) (cond (nat_lt (length rows) most) (Ok (place rank (rank row) rows)) (Err Full))

-- the rows after it: with the new one in its place, or as they were
abbrev pub entered : {R : Type 0} → Result ℕ Refusal → List R → R → List R
entered (Ok i) rows row = insert rows i row
entered (Err e) rows row = rows

-- how many they are then
abbrev pub counted : Result ℕ Refusal → ℕ → ℕ
counted (Ok i) n = suc n
counted (Err e) n = n

-- an entry of the row, where at most `limit` may stand: answered r, it made of the old rows in the memory xs the new rows in xs'
pub record Entry {R : Type 0} (rank : R → List ℕ) (limit : ℕ) (old xs : List R) (row : R) (r : Result ℕ Refusal) (new xs' : List R) : Type 0 where
  pub answer : r ≡ answered rank (min limit (length xs)) old row
  pub rows : new ≡ entered r old row
  -- the memory past the rows is as it was
  pub spare : drop (length new) xs' ≡ drop (length new) xs
  pub room : length xs' ≡ length xs
  -- what follows of how many they are
  pub count : length new ≡ counted r (length old)
  pub most : length old ≤ limit → length new ≤ limit

-- what a search of rows in order says: the row that it finds has the key; where it finds none, no row has it; and a row that has it is the one that is found
pub record Found {R : Type 0} (rank : R → List ℕ) (k : List ℕ) (rows : List R) (r : Option ℕ) : Type 0 where
  pub some : (i : ℕ) (d : R) → r ≡ Some i → (i < length rows) × (rank (slice_index_or rows i d) ≡ k)
  pub none : (i : ℕ) (d : R) → r ≡ None → i < length rows → rank (slice_index_or rows i d) ≢ k
  pub only : (i : ℕ) (d : R) → i < length rows → rank (slice_index_or rows i d) ≡ k → r ≡ Some i
