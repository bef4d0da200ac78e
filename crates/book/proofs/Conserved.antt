-- What each use does to what all accounts hold, and so what a whole run does.
use Rattle.std.proofs.Common.{◌≡◌, ℕ, ◌+◌, ◌-◌, ◌*◌, ◌<◌, ◌≤◌, min, cond, ◌&&◌, eqb, List, [], length, get_or, Some, None, Ok, Option, sum_by, ap, subst, refl, sym, ◌∙◌, length-set, get_or-set_other, insert, All, arith}
use borrow.Author.Differences.{up}
use Rattle.std.proofs.lemmas.Bool.{leb-true}
use Rattle.std.proofs.lemmas.List.Edits.{length-insert}
use Rattle.std.proofs.lemmas.List.Elements.{All-nil, All-same, All-weaker}
use Rattle.std.proofs.lemmas.List.Sums.{sum_by-cons, sum_by-insert, prefix_len-le-length}
use Rattle.terms.specs.declared.faults.Fault.{Fault}
use Rattle.terms.specs.declared.keys.AskedKey.{AskedKey}
use Rattle.terms.specs.declared.keys.SeriesKey.{SeriesKey}
use Rattle.terms.specs.declared.names.Name.{Name}
use Rattle.terms.specs.declared.words.Basis.{Basis}
use Rattle.terms.specs.declared.words.Refusal.TheVariants.{NotHeld}
use Rattle.terms.specs.declared.words.Side.{Side}
use Rattle.terms.specs.declared.words.Leg.{Leg}
use Rattle.terms.specs.declared.words.Leg.TheVariants.{Long, Short}
use Rattle.terms.specs.Keys.{figured}
use Rattle.terms.specs.Names.{spelled}
use Rattle.register.specs.Rows.{sought, place}
use Rattle.register.proofs.Kept.{all_entered}
use Rattle.sheet.specs.Rows.{series_rank}
use Rattle.book.specs.declared.rows.AccountRow.{AccountRow}
use Rattle.book.specs.Rows.{account_rank}
use Rattle.book.specs.Limits.{name_of, asked}
use Rattle.book.specs.Found.{listed, deal_fault, move_fault}
use Rattle.book.specs.State.{State, cell, held, at_count, cleared}
use Rattle.book.specs.Uses.{Use, Opening, Posting, Closing, Moving, fault_of, done, after, opened, added, taken, count, at_both}
use Rattle.book.specs.Events.{Event, Happens, makes, asks, tries, Run, none, next}
use Rattle.book.specs.Law.{same_series, same_leg, posts, closes, counting, posted, closed, held_by_all}
use Rattle.book.proofs.Cleared.{cleared_below, cleared_within, cleared_length}
use Rattle.book.proofs.Passed.{passed_test, passed_first, deal_stands, move_stands, space_passed}
use Rattle.book.proofs.Places.{Stand, number_below, place_below, same_place}
use Rattle.book.proofs.Totals.{sum_below, sum_more, sum_same, counted_for, leg_below, count_set, counted_sum, counted_both}

-- ---- what a run keeps of a book
record Kept (s : State) : Type 0 where
  few_series : length s.series ≤ 128
  room : length s.accounts * 256 ≤ length s.counts
  numbered : All (λ a. a.slot < length s.accounts) s.accounts
  -- what is added up over the accounts is added up over the opening numbers
  each_once : (f : ℕ → ℕ) → sum_by (λ a. f a.slot) s.accounts ≡ sum_below (length s.accounts) f

kept_new : (s : State) → s.accounts ≡ [] → length s.series ≤ 128 → Kept s
kept_new s new short =
    let few : length s.accounts ≡ 0 = ap length new in
    record {
      few_series = short;
      room = omega arith;
      numbered = All-same (λ (a : AccountRow). a.slot < length s.accounts) s.accounts [] new (All-nil _);
      each_once = λ f. ap (λ rows. sum_by (λ (a : AccountRow). f a.slot) rows) new ∙ ap (λ n. sum_below n f) (sym few);
    }

kept_set : (s : State) (i j : ℕ) (l : Leg) (v : ℕ) → Kept s → Kept (at_count s i j l v)
kept_set s i j l v h = record { few_series = h.few_series; room = rw (length-set s.counts (cell i j l) v) h.room; numbered = h.numbered; each_once = h.each_once }

-- ---- what all accounts hold where a count is set, and where an account is opened
module _ (s : State) (h : Kept s) (j : ℕ) (l : Leg) (few : j < 128) where
  module _ (i k : ℕ) (m : Leg) (number_open : i < length s.accounts) (place_small : k < 128) where
    set_held : (v : ℕ) → held_by_all (at_count s i k m v) j l + counted_for k m j l (held s i k m) ≡ held_by_all s j l + counted_for k m j l v
    set_held v =
        let was = h.each_once (λ a. held s a j l) in
        let is = h.each_once (λ a. held (at_count s i k m v) a j l) in
        let moved = count_set (length s.accounts) s.counts i k m v j l number_open h.room place_small few in
        omega (arith, was, is, moved)

    more_held : (n : ℕ) → held_by_all (at_count s i k m (held s i k m + n)) j l ≡ held_by_all s j l + counted_for k m j l n
    more_held n = omega (arith, set_held (held s i k m + n), counted_sum k m j l (held s i k m) n)

    less_held : (n : ℕ) → n ≤ held s i k m → held_by_all (at_count s i k m (held s i k m - n)) j l + counted_for k m j l n ≡ held_by_all s j l
    less_held n enough =
        let left = held s i k m - n in
        let back : left + n ≡ held s i k m = omega arith in
        let whole = ap (counted_for k m j l) back in
        omega (arith, set_held left, counted_sum k m j l left n, whole)

  -- an account that is opened holds nothing
  opened_held : (x : Name) (b : Basis) (d : Side) → length s.accounts * 256 + 256 ≤ length s.counts → held_by_all (opened s x b d) j l ≡ held_by_all s j l
  opened_held x b d space =
      let n = length s.accounts in
      let lb = leg_below l in
      let f : ℕ → ℕ = λ i. get_or (cleared s.counts n) (cell i j l) 0 in
      let more = sum_by-insert (λ (a : AccountRow). f a.slot) s.accounts (place account_rank (spelled x) s.accounts) (record { name = x; basis = b; side = d; slot = n }) in
      let old = h.each_once f in
      let was = h.each_once (λ i. held s i j l) in
      let same = sum_same n f (λ i. held s i j l) (λ i lt. cleared_below 256 s.counts (n * 256) space (cell i j l) (omega arith)) in
      let new : f n ≡ 0 = cleared_within 256 s.counts (n * 256) space (cell n j l) (omega arith) (omega arith) in
      omega (arith, more, old, was, same, new)

-- ---- what an accepted use leaves is as what was kept
kept_opened : (s : State) (x : Name) (b : Basis) (d : Side) → Kept s → length s.accounts * 256 + 256 ≤ length s.counts → Kept (opened s x b d)
kept_opened s x b d h space =
    let n = length s.accounts in
    let p = place account_rank (spelled x) s.accounts in
    let row : AccountRow = record { name = x; basis = b; side = d; slot = n } in
    let long : length (insert s.accounts p row) ≡ n + 1 = length-insert s.accounts p row (prefix_len-le-length _ s.accounts) in
    let size = cleared_length 256 s.counts (n * 256) space in
    record {
      few_series = h.few_series;
      room = omega (arith, long, size);
      numbered = all_entered (λ (a : AccountRow). a.slot < length (insert s.accounts p row)) (Ok p) s.accounts row
          (All-weaker (λ (a : AccountRow). a.slot < n) (λ (a : AccountRow). a.slot < length (insert s.accounts p row)) (λ a lt. omega arith) s.accounts h.numbered) (omega arith);
      each_once = λ f. sum_by-insert (λ (a : AccountRow). f a.slot) s.accounts p row ∙ ap (λ m. m + f n) (h.each_once f) ∙ sym (sum_more n f) ∙ ap (λ m. sum_below m f) (sym long);
    }

kept_done : (s : State) (u : Use) → Kept s → None ≡ fault_of s u → Kept (done s u)
kept_done s (Opening t b d) h e = kept_opened s (name_of t) b d h (space_passed s t b d e)
kept_done s (Posting t k m n) h e = kept_set s _ _ m _ h
kept_done s (Closing t k n) h e = kept_set (taken s t k Long (up n)) _ _ Short _ (kept_set s _ _ Long _ h)
kept_done s (Moving a b k m n) h e = kept_set (taken s a k m (up n)) _ _ m _ (kept_set s _ _ m _ h)

kept_after : (s : State) (u : Use) (o : Option Fault) → Kept s → o ≡ fault_of s u → Kept (after s u o)
kept_after s u None h e = kept_done s u h e
kept_after s u (Some f) h e = h

-- ---- a use of the account with a name and the series with a key
module _ (s : State) (t : List ℕ) (k : AskedKey) (w : Stand s.accounts s.series (name_of t) (asked k)) (m : Leg) where
  count_there : count s t k m ≡ held s w.number w.place m
  count_there = rw (w.account, w.listed) refl

  added_there : (n : ℕ) → added s t k m n ≡ at_count s w.number w.place m (held s w.number w.place m + n)
  added_there n = rw (w.account, w.listed) refl

  taken_there : (n : ℕ) → taken s t k m n ≡ at_count s w.number w.place m (held s w.number w.place m - n)
  taken_there n = rw (w.account, w.listed) refl

  module _ (h : Kept s) (j : ℕ) (l : Leg) (few : j < 128) where
    number_open : w.number < length s.accounts
    number_open = number_below s.accounts (length s.accounts) (name_of t) w.number h.numbered w.account

    place_small : w.place < 128
    place_small = let below = place_below s.series (figured (asked k)) w.place w.listed in let all = h.few_series in omega arith

    added_held : (n : ℕ) → held_by_all (added s t k m n) j l ≡ held_by_all s j l + counted_for w.place m j l n
    added_held n = ap (λ v. held_by_all v j l) (added_there n) ∙ more_held s h j l few w.number w.place m number_open place_small n

    taken_held : (n : ℕ) → n ≤ count s t k m → held_by_all (taken s t k m n) j l + counted_for w.place m j l n ≡ held_by_all s j l
    taken_held n enough = ap (λ v. held_by_all v j l + counted_for w.place m j l n) (taken_there n) ∙ less_held s h j l few w.number w.place m number_open place_small n (omega (arith, count_there))

-- what is taken from the longs leaves the shorts
shorts_left : (s : State) (t : List ℕ) (k : AskedKey) (n : ℕ) → Stand s.accounts s.series (name_of t) (asked k) → count (taken s t k Long n) t k Short ≡ count s t k Short
shorts_left s t k n w =
    let left = taken s t k Long n in
    count_there left t k w Short ∙ ap (λ v. held v w.number w.place Short) (taken_there s t k w Long n)
    ∙ get_or-set_other s.counts (cell w.number w.place Long) (cell w.number w.place Short) (held s w.number w.place Long - n) 0 (omega arith)
    ∙ sym (count_there s t k w Short)

-- ---- what an accepted use does to what all accounts hold of a series and a leg
module _ (q : SeriesKey) (j : ℕ) (l : Leg) where
  same_series_is : (s : State) (p : SeriesKey) (i : ℕ) → listed s p ≡ Some i → listed s q ≡ Some j → same_series p q ≡ eqb i j
  same_series_is s p i e at = same_place s.series (figured p) (figured q) i j e at

  done_held : (s : State) → Kept s → j < 128 → listed s q ≡ Some j → (u : Use) → None ≡ fault_of s u → held_by_all (done s u) j l + closes q u ≡ held_by_all s j l + posts q l u
  done_held s h few at (Opening t b d) e = ap (λ x. x + 0) (opened_held s h j l few (name_of t) b d (space_passed s t b d e))
  done_held s h few at (Posting t k m n) e =
      let w = deal_stands s t k n (passed_first (deal_fault s t k n) _ e).0 in
      let more = added_held s t k w m h j l few (up n) in
      let mine = ap (λ b. cond (b && same_leg m l) (up n) 0) (same_series_is s (asked k) w.place w.listed at) in
      omega (arith, more, mine)
  done_held s h few at (Closing t k n) e =
      let a = passed_first (deal_fault s t k n) _ e in
      let w = deal_stands s t k n a.0 in
      let enough = leb-true (up n) (min (count s t k Long) (count s t k Short)) (passed_test _ (at_both NotHeld (name_of t) k.class) None a.1).0 in
      let long = taken_held s t k w Long h j l few (up n) (omega arith) in
      let left = taken s t k Long (up n) in
      let short = taken_held left t k w Short (kept_set s _ _ Long _ h) j l few (up n) (omega (arith, shorts_left s t k (up n) w)) in
      let both = counted_both w.place j l (up n) in
      let mine = ap (λ b. cond b (up n) 0) (same_series_is s (asked k) w.place w.listed at) in
      omega (arith, long, short, both, mine)
  done_held s h few at (Moving a b k m n) e =
      let c = passed_first (move_fault s a b k n) _ e in
      let w = move_stands s a b k n c.0 in
      let enough = leb-true (up n) (count s a k m) (passed_test _ (at_both NotHeld (name_of a) k.class) _ c.1).0 in
      let less = taken_held s a k w.0 m h j l few (up n) enough in
      let more = added_held (taken s a k m (up n)) b k w.1 m (kept_set s _ _ m _ h) j l few (up n) in
      let place : w.0.place ≡ w.1.place = let one : Some w.0.place ≡ Some w.1.place = sym w.0.listed ∙ w.1.listed in cc in
      let same = ap (λ p. counted_for p m j l (up n)) place in
      omega (arith, less, more, same)

  -- an event
  event_held : {s : State} {e : Event} {t : State} → Kept s → j < 128 → listed s q ≡ Some j → Happens s e t
      → held_by_all t j l + counting (closes q) e ≡ held_by_all s j l + counting (posts q l) e
  event_held {s} h few at (makes {u = u} {o = None} step) =
      let here = ap (λ x. held_by_all x j l) step.state in
      omega (arith, here, done_held s h few at u step.fault)
  event_held {s} h few at (makes {u = u} {o = Some f} step) = ap (λ x. held_by_all x j l + 0) step.state
  event_held h few at (asks a) = refl
  event_held h few at (tries e w) = refl

series_kept : (s : State) (u : Use) (o : Option Fault) → (after s u o).series ≡ s.series
series_kept s (Opening t b d) None = refl
series_kept s (Posting t k m n) None = refl
series_kept s (Closing t k n) None = refl
series_kept s (Moving a b k m n) None = refl
series_kept s u (Some f) = refl

-- ---- a run from a book that is as what is kept
kept_over : {s : State} {e : Event} {t : State} → Happens s e t → Kept s → Kept t
kept_over {s} (makes {u = u} {o = o} step) h = let P : State → Type 0 = λ x. Kept x in subst P (sym step.state) (kept_after s u o h step.fault)
kept_over (asks a) h = h
kept_over (tries e w) h = h

series_over : {s : State} {e : Event} {t : State} → Happens s e t → t.series ≡ s.series
series_over {s} (makes {u = u} {o = o} step) = ap (λ x. x.series) step.state ∙ series_kept s u o
series_over (asks a) = refl
series_over (tries e w) = refl

run_held : {s : State} {es : List Event} {t : State} → Run s es t → Kept s → (q : SeriesKey) (j : ℕ) (l : Leg) → listed s q ≡ Some j
    → held_by_all t j l + closed es q ≡ held_by_all s j l + posted es q l
run_held none h q j l at = refl
run_held {s} (next {t = t} e {es = es} step r) h q j l at =
    let there : listed t q ≡ Some j = ap (λ rows. sought series_rank (figured q) rows) (series_over step) ∙ at in
    let rest = run_held r (kept_over step h) q j l there in
    let space = h.few_series in
    let below = place_below s.series (figured q) j at in
    let first = event_held q j l h (omega arith) at step in
    let outs = sum_by-cons (counting (closes q)) e es in
    let ins = sum_by-cons (counting (posts q l)) e es in
    omega (arith, rest, first, outs, ins)

series_kept_over : {s : State} {es : List Event} {t : State} → Run s es t → t.series ≡ s.series
series_kept_over none = refl
series_kept_over (next e step r) = series_kept_over r ∙ series_over step

-- of a book without accounts
pub held_is_posted : (s : State) → s.accounts ≡ [] → length s.series ≤ 128 → (es : List Event) (t : State) → Run s es t
    → (q : SeriesKey) (j : ℕ) (l : Leg) → listed t q ≡ Some j → held_by_all t j l + closed es q ≡ posted es q l
held_is_posted s new short es t r q j l at =
    let all = run_held r (kept_new s new short) q j l (ap (λ rows. sought series_rank (figured q) rows) (sym (series_kept_over r)) ∙ at) in
    let first : held_by_all s j l ≡ 0 = ap (λ rows. sum_by (λ (a : AccountRow). held s a.slot j l) rows) new in
    omega (arith, all, first)
