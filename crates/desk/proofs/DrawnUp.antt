-- Statements that are drawn up one after the other, up to the first refusal.
use Rattle.std.proofs.Common.{◌≡◌, ℕ, zero, suc, true, is_some, is_ok, ◌+◌, ◌-◌, ◌<◌, List, [], ◌∷◌, ◌++◌, map, length, Some, None, Option, Ok, Err, Result, sym, refl, ap, ◌∙◌, arith}
use Rattle.std.specs.Prelude.{filter_map, option_map, unwrap_or}
use Rattle.std.specs.List.{range_with_len, cons_option}
use Rattle.std.proofs.lemmas.List.{append_assoc, append-nil, map-append, length-map}
use Rattle.std.proofs.lemmas.Bool.{true≢false}
use Rattle.terms.specs.declared.faults.Fault.{Fault}
use Rattle.charge.specs.Meanings.{Meaning}
use Rattle.account.specs.declared.rule.AccountReport.{AccountReport}
use Rattle.account.specs.Outcomes.{and_then}
use Rattle.book.specs.declared.rows.AccountRow.{AccountRow}
use Rattle.book.specs.State.{State}
use Rattle.book.specs.Reads.{numbered}
use Rattle.collateral.specs.declared.statements.Statement.{Statement}
use Rattle.collateral.specs.Requirements.{Owes, owes}
use Rattle.book.specs.Reports.{row_report, nth_report, in_opening_order}
use Rattle.desk.specs.Reports.{statement, statement_of_each, statements}

-- statements that stand already, before those to come
abbrev pub followed_by : List Owes → Result (List Owes) Fault → Result (List Owes) Fault
followed_by xs (Ok zs) = Ok (xs ++ zs)
followed_by xs (Err e) = Err e

-- numbers that are all some account's
there : {A : Type 0} (o : Option A) (xs : List A) → is_some o ≡ true → length (cons_option o xs) ≡ suc (length xs)
there (Some a) xs e = refl
there None xs e = absurd (true≢false (sym e))

each_there : (rows : List AccountRow) (i n : ℕ) → ((k : ℕ) → k < i + n → is_some (numbered k rows) ≡ true) → length (filter_map (λ k. numbered k rows) (range_with_len i n)) ≡ n
each_there rows i zero each = refl
each_there rows i (suc n) each =
    there (numbered i rows) (filter_map (λ k. numbered k rows) (range_with_len (i + 1) n)) (each i (omega arith))
    ∙ ap suc (each_there rows (i + 1) n (λ k below. each k (omega arith)))

module _ (m : Meaning) (s : State) where
  -- the accounts from the k-th on, and what is left to draw up there
  abbrev pub rows_from : ℕ → List AccountRow
  rows_from k = filter_map (λ i. numbered i s.accounts) (range_with_len k (length s.accounts - k))

  abbrev pub left : ℕ → Result (List Owes) Fault
  left k = statement_of_each m s (rows_from k)

  next_row : (k : ℕ) → k < length s.accounts → rows_from k ≡ cons_option (numbered k s.accounts) (rows_from (k + 1))
  next_row k lt =
      let more : length s.accounts - k ≡ suc (length s.accounts - (k + 1)) = omega arith in
      ap (λ j. filter_map (λ i. numbered i s.accounts) (range_with_len k j)) more

  one_more : (xs : List Owes) (x : Owes) (r : Result (List Owes) Fault) → followed_by xs (and_then r (λ ys. Ok (x ∷ ys))) ≡ followed_by (xs ++ x ∷ []) r
  one_more xs x (Ok ys) = ap Ok (sym (append_assoc xs (x ∷ []) ys))
  one_more xs x (Err e) = refl

  after_none : (r : Result (List Owes) Fault) → followed_by [] r ≡ r
  after_none (Ok ys) = refl
  after_none (Err e) = refl

  pub all_left : (xs : List Statement) → xs ≡ [] → followed_by (map owes xs) (left 0) ≡ statements m s
  all_left xs none =
      let all : length s.accounts - 0 ≡ length s.accounts = omega arith in
      ap (λ ys. followed_by (map owes ys) (left 0)) none ∙ after_none (left 0) ∙ ap (λ n. statement_of_each m s (filter_map (λ i. numbered i s.accounts) (range_with_len 0 n))) all

  no_row : (o : Option AccountRow) → option_map (row_report m s) o ≡ None → o ≡ None
  no_row None e = refl
  no_row (Some a) e = cc

  -- the report of the account with a number is the one of its row
  reported : (k : ℕ) (a : AccountRow) (r : Result AccountReport Fault) → Some a ≡ numbered k s.accounts → Some r ≡ nth_report m s k → r ≡ row_report m s a
  reported k a r there answer = ap (λ o. unwrap_or o r) (answer ∙ sym (ap (option_map (row_report m s)) there))

  -- the statements so far, with those that are left: a number that no account has, a refusal, and one statement more
  module _ (k : ℕ) (xs : List Statement) (ahead : followed_by (map owes xs) (left k) ≡ statements m s) (lt : k < length s.accounts) where
    at_number : (o : Option AccountRow) → o ≡ numbered k s.accounts → followed_by (map owes xs) (statement_of_each m s (cons_option o (rows_from (k + 1)))) ≡ statements m s
    at_number o there = sym (ap (λ rows. followed_by (map owes xs) (statement_of_each m s rows)) (next_row k lt ∙ sym (ap (λ o. cons_option o (rows_from (k + 1))) there))) ∙ ahead

    pub passed_over : None ≡ nth_report m s k → followed_by (map owes xs) (left (k + 1)) ≡ statements m s
    passed_over none = at_number None (sym (no_row (numbered k s.accounts) (sym none)))

    pub refuses : (a : AccountRow) (r : Result AccountReport Fault) (e : Fault) → Some a ≡ numbered k s.accounts → Some r ≡ nth_report m s k → r ≡ Err e → Err e ≡ statements m s
    refuses a r e there answer stop =
        let fault = sym (reported k a r there answer) ∙ stop in
        sym (rw fault refl) ∙ at_number (Some a) there

    pub draws : (a : AccountRow) (r : Result AccountReport Fault) (p : AccountReport) (x : Statement) → Some a ≡ numbered k s.accounts → Some r ≡ nth_report m s k → r ≡ Ok p → owes x ≡ record { name = a.name; side = a.side; owed = p.owed } → followed_by (map owes (xs ++ x ∷ [])) (left (k + 1)) ≡ statements m s
    draws a r p x there answer go says =
        let report = sym (reported k a r there answer) ∙ go in
        ap (λ ys. followed_by ys (left (k + 1))) (map-append owes xs (x ∷ []) ∙ ap (λ y. map owes xs ++ y ∷ []) says)
        ∙ sym (one_more (map owes xs) (record { name = a.name; side = a.side; owed = p.owed }) (left (k + 1)))
        ∙ sym (rw report refl)
        ∙ at_number (Some a) there

  -- ---- as many statements as accounts
  one_each : (rows : List AccountRow) (r : Result Owes Fault) (q : Result (List Owes) Fault) (xs : List Owes) → ((ys : List Owes) → Ok ys ≡ q → length ys ≡ length rows)
      → Ok xs ≡ and_then r (λ x. and_then q (λ ys. Ok (x ∷ ys))) → length xs ≡ suc (length rows)
  one_each rows (Ok x) (Ok ys) xs rest e =
      let same : xs ≡ x ∷ ys = cc in
      ap length same ∙ ap suc (rest ys refl)
  one_each rows (Ok x) (Err f) xs rest e = absurd (true≢false (ap is_ok e))
  one_each rows (Err f) q xs rest e = absurd (true≢false (ap is_ok e))

  as_many : (rows : List AccountRow) (xs : List Owes) → Ok xs ≡ statement_of_each m s rows → length xs ≡ length rows
  as_many [] xs e = let none : xs ≡ [] = cc in ap length none
  as_many (a ∷ rows) xs e = one_each rows (statement m s a) (statement_of_each m s rows) xs (as_many rows) e

  pub all_drawn : (xs : List Statement) → followed_by (map owes xs) (left (length s.accounts)) ≡ statements m s → ((k : ℕ) → k < length s.accounts → is_some (numbered k s.accounts) ≡ true)
      → length xs ≡ length s.accounts
  all_drawn xs e each =
      let n = length s.accounts in
      let none : n - n ≡ 0 = omega arith in
      let done : Ok (map owes xs ++ []) ≡ statements m s = rw none at e in
      sym (length-map xs owes) ∙ ap length (sym (append-nil (map owes xs))) ∙ as_many (in_opening_order s.accounts) (map owes xs ++ []) done
      ∙ each_there s.accounts 0 n (λ k below. each k (omega arith))
