-- Opening numbers stay below the number of accounts, and each number stays some account's.
use Rattle.std.proofs.Common.{◌≡◌, ℕ, zero, suc, ◌+◌, ◌<◌, Bool, true, false, cond, List, [], ◌∷◌, ◌++◌, ◌==◌, length, take, drop, take-append-drop, inl, inr, is_ok, is_some, Some, Option, Ok, Err, Result, refl, ap, sym, subst, arith}
use Rattle.terms.specs.declared.words.Refusal.{Refusal}
use Rattle.std.specs.List.{All, find, slice_get}
use Rattle.std.proofs.lemmas.Bool.{true≢false, cases_lt}
use Rattle.std.proofs.lemmas.List.Elements.{All-head, All-tail, All-weaker}
use Rattle.register.specs.Rows.{Entry, counted}
use Rattle.register.proofs.Kept.{all_after}
use Rattle.book.specs.declared.rows.AccountRow.{AccountRow}
use Rattle.book.specs.Reads.{numbered}
use Rattle.book.specs.Rows.{account_rank}

-- the opening number of a row that is there
pub slot_below : (n : ℕ) (rows : List AccountRow) (i : ℕ) (a : AccountRow) → All (λ b. b.slot < n) rows → Some a ≡ slice_get rows i → a.slot < n
slot_below n [] i a h e = let z : ◌≡◌ {A = ℕ} 0 1 = cc in absurd (omega arith)
slot_below n (x ∷ rows) zero a h e =
    let same : a ≡ x = cc in
    subst (λ (y : AccountRow). y.slot < n) (sym same) (All-head (λ b. b.slot < n) x rows h)
slot_below n (x ∷ rows) (suc i) a h e = slot_below n rows i a (All-tail (λ b. b.slot < n) x rows h) e

-- an accepted entry makes one more row, and its number is the next
pub one_more : (r : Result ℕ Refusal) (n : ℕ) → true ≡ is_ok r → counted r n ≡ n + 1
one_more (Ok i) n e = omega arith
one_more (Err x) n e = cc

pub numbered_more : {limit : ℕ} {rows xs : List AccountRow} {row : AccountRow} {r : Result ℕ Refusal} {rows' xs' : List AccountRow} → Entry account_rank limit rows xs row r rows' xs' → true ≡ is_ok r → row.slot ≡ length rows
    → All (λ b. b.slot < length rows) rows → All (λ b. b.slot < length rows') rows'
numbered_more {rows = rows} {r = r} {rows' = rows'} e ok f h =
    let next : length rows' ≡ length rows + 1 = omega (arith, e.count, one_more r (length rows) ok) in
    all_after (λ b. b.slot < length rows') e (omega arith) (All-weaker (λ b. b.slot < length rows) (λ b. b.slot < length rows') (λ b p. omega arith) rows h)

-- what is found is found again where one more row stands among them, and so is that row
module _ (p : AccountRow → Bool) (row : AccountRow) where
  behind : (b : Bool) (x : AccountRow) (was is : Option AccountRow) → (is_some was ≡ true → is_some is ≡ true) → is_some (cond b (Some x) was) ≡ true → is_some (cond b (Some x) is) ≡ true
  behind true x was is f h = refl
  behind false x was is f h = f h

  before : (b : Bool) (x : AccountRow) (o : Option AccountRow) → is_some o ≡ true → is_some (cond b (Some x) o) ≡ true
  before true x o h = refl
  before false x o h = h

  found_again : (front back : List AccountRow) → is_some (find p (front ++ back)) ≡ true → is_some (find p (front ++ (row ∷ back))) ≡ true
  found_again [] back h = before (p row) row (find p back) h
  found_again (x ∷ xs) back h = behind (p x) x (find p (xs ++ back)) (find p (xs ++ (row ∷ back))) (found_again xs back) h

  found_new : (front back : List AccountRow) → p row ≡ true → is_some (find p (front ++ (row ∷ back))) ≡ true
  found_new [] back e = ap (λ b. is_some (cond b (Some row) (find p back))) e
  found_new (x ∷ xs) back e = before (p x) x (find p (xs ++ (row ∷ back))) (found_new xs back e)

-- the next account has the next number
pub each_more : {limit : ℕ} {rows xs : List AccountRow} {row : AccountRow} {r : Result ℕ Refusal} {rows' xs' : List AccountRow} → Entry account_rank limit rows xs row r rows' xs' → true ≡ is_ok r → row.slot ≡ length rows
    → ((k : ℕ) → k < length rows → is_some (numbered k rows) ≡ true) → (k : ℕ) → k < length rows' → is_some (numbered k rows') ≡ true
each_more {rows = rows} {row = row} {r = Ok i} {rows' = rows'} e ok f h k below =
    rw e.rows (elim (cases_lt k (length rows)) [
      | inl old ↦ found_again (λ a. a.slot == k) row (take i rows) (drop i rows) (rw (take-append-drop i rows) (h k old))
      | inr new ↦
          let same : row.slot ≡ k = omega (arith, f, e.count) in
          found_new (λ a. a.slot == k) row (take i rows) (drop i rows) (rw same (grind arith))
    ])
each_more {r = Err x} e ok f h k below = absurd (true≢false ok)
