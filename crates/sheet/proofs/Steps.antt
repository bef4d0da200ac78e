-- What the tests of a call make of its fault, and what an entry makes of the draft: together, the step.
use Rattle.std.proofs.Common.{◌≡◌, ℕ, min, Bool, true, false, not, ◌&&◌, List, length, ℤ, is_some, Some, None, Ok, Err, Option, Result, sym, refl, ap, ◌∙◌}
use Rattle.std.proofs.lemmas.Bool.{true≢false, cond-true, cond-false, not-true, not_from_false, and_from, and_right}
use Rattle.terms.specs.Codes.{lettered}
use Rattle.terms.specs.Faults.{unless, with_class, with_currency}
use Rattle.terms.specs.Keys.{figured}
use Rattle.terms.specs.declared.codes.Code.{Code}
use Rattle.terms.specs.declared.faults.Fault.{Fault}
use Rattle.terms.specs.declared.keys.SeriesKey.{SeriesKey}
use Rattle.terms.specs.declared.words.Currency.{Currency}
use Rattle.terms.specs.declared.words.Refusal.{Refusal}
use Rattle.terms.specs.declared.words.Refusal.TheVariants.{Limit, Twice, Unknown, Full}
use Rattle.register.specs.Rows.{Entry, sought}
use Rattle.register.proofs.Kept.{put_in, left_out}
use Rattle.sheet.specs.declared.rows.ClassRow.{ClassRow}
use Rattle.sheet.specs.declared.rows.Listing.{Listing}
use Rattle.sheet.specs.declared.rows.Series.{Series}
use Rattle.sheet.specs.Limits.{quoted, terms_fit, class_of, line_fits, values_fit, keyed, series_of}
use Rattle.sheet.specs.Rows.{class_rank, series_rank}
use Rattle.sheet.specs.State.{State, Use, Listed, Class, Step, fault_of, book, free, there, room_left, key_fault, full_fault, line_fault, values_fault, joined, entry_fault}
use Rattle.sheet.proofs.Made.{class_row_is, series_row_is}

-- ---- tests in a row
both_passed : (a b : Bool) (f g : Fault) → None ≡ unless a f (unless b g None) → (a ≡ true) × (b ≡ true)
both_passed true true f g e = (refl, refl)
both_passed true false f g e = absurd (true≢false (sym (ap is_some e)))
both_passed false b f g e = absurd (true≢false (sym (ap is_some e)))

one_failed : (a b : Bool) (f g h : Fault) (rest : Option Fault) → Some h ≡ unless a f (unless b g None) → Some h ≡ unless a f (unless b g rest)
one_failed true true f g h rest e = absurd (true≢false (ap is_some e))
one_failed true false f g h rest e = e
one_failed false b f g h rest e = e

pub passed : (a : Bool) (f : Fault) → None ≡ unless a f None → a ≡ true
passed true f e = refl
passed false f e = absurd (true≢false (sym (ap is_some e)))

failed : (a : Bool) (f h : Fault) → Some h ≡ unless a f None → (a ≡ false) × (h ≡ f)
failed true f h e = absurd (true≢false (ap is_some e))
failed false f h e = (refl, cc)

module _ (s : State) (k : SeriesKey) where
  abbrev new : Bool
  new = free series_rank (figured k) s.series

  abbrev listed : Bool
  listed = there class_rank (lettered k.class) s.classes

  pub key_passed : None ≡ key_fault s k None → (new ≡ true) × (listed ≡ true)
  key_passed e = both_passed new listed (with_class k.class (book Twice)) (with_class k.class (book Unknown)) e

  key_failed : (h : Fault) (rest : Option Fault) → Some h ≡ key_fault s k None → Some h ≡ key_fault s k rest
  key_failed h rest e = one_failed new listed (with_class k.class (book Twice)) (with_class k.class (book Unknown)) h rest e

  key_left : (rest : Option Fault) → None ≡ key_fault s k None → key_fault s k rest ≡ rest
  key_left rest e = let p = key_passed e in cond-true new _ _ p.0 ∙ cond-true listed rest _ p.1

-- a fault that is the one that decides
pub told_as : {s t : State} {u : Use} {f g : Fault} → f ≡ g → Step s u (Some g) t → Step s u (Some f) t
told_as e step = rw e step

-- ---- a class whose code is there, and one whose currency is not on the sheet
module _ (s : State) (code : Code) (c : Currency) (spread : Option ℤ) (minimum : ℤ) (row : ClassRow) (made : Some row ≡ class_of code c spread minimum) where
  class_rest : (o : Option Fault) → o ≡ unless (free class_rank (lettered code) s.classes) (with_class code (book Twice)) (unless (quoted s.rates c) (with_currency c (book Unknown)) (unless (room_left 16 s.class_room s.classes) (book Full) None)) → o ≡ fault_of s (Class code c spread minimum)
  class_rest o e = e ∙ sym (cond-true (terms_fit code spread minimum) _ (Some (book Limit)) (class_row_is code c spread minimum row made).0)

  pub class_twice : is_some (sought class_rank (lettered code) s.classes) ≡ true → Step s (Class code c spread minimum) (Some (with_class code (book Twice))) s
  class_twice seen = record { fault = class_rest _ (sym (cond-false (free class_rank (lettered code) s.classes) _ (Some (with_class code (book Twice))) (ap not seen))); state = refl }

  module _ (new : is_some (sought class_rank (lettered code) s.classes) ≡ false) where
    pub class_unquoted : quoted s.rates c ≡ false → Step s (Class code c spread minimum) (Some (with_currency c (book Unknown))) s
    class_unquoted none = record {
      fault = class_rest _ (sym (cond-true (free class_rank (lettered code) s.classes) _ (Some (with_class code (book Twice))) (not_from_false _ new) ∙ cond-false (quoted s.rates c) _ (Some (with_currency c (book Unknown))) none));
      state = refl;
    }

    class_left : quoted s.rates c ≡ true → (o : Option Fault) → o ≡ unless (room_left 16 s.class_room s.classes) (book Full) None → o ≡ fault_of s (Class code c spread minimum)
    class_left quote o e = class_rest o (e ∙ sym (cond-true (free class_rank (lettered code) s.classes) _ (Some (with_class code (book Twice))) (not_from_false _ new) ∙ cond-true (quoted s.rates c) (unless (room_left 16 s.class_room s.classes) (book Full) None) (Some (with_currency c (book Unknown))) quote))

-- ---- a class is put in, or there is no room
abbrev draft : List ℕ → List ClassRow → List Series → ℕ → ℕ → State
draft rates classes series m n = record { rates = rates; classes = classes; series = series; class_room = m; series_room = n }

module _ (code : Code) (c : Currency) (spread : Option ℤ) (minimum : ℤ) (row : ClassRow) (made : Some row ≡ class_of code c spread minimum)
    (rates : List ℕ) (series : List Series) (room : ℕ) (rows xs rows' xs' : List ClassRow) (new : is_some (sought class_rank (lettered code) rows) ≡ false) (quote : quoted rates c ≡ true) where
  abbrev classed : State
  classed = draft rates rows series (length xs) room

  pub class_entered : (r : Result ℕ Refusal) → Entry class_rank 16 rows xs row r rows' xs' → Step classed (Class code c spread minimum) (entry_fault r) (draft rates rows' series (length xs') room)
  class_entered (Ok i) e =
      let put = put_in class_rank (min 16 (length xs)) rows row i e.answer in
      record {
        fault = class_left classed code c spread minimum row made new quote None (sym (cond-true _ None (Some (book Full)) put.0));
        state = rw (e.rows, e.room, put.1) (ap (λ r. draft rates (joined class_rank r rows) series (length xs) room) (class_row_is code c spread minimum row made).1);
      }
  class_entered (Err d) e =
      let same = ap (λ r. is_some (sought class_rank (class_rank r) rows)) (class_row_is code c spread minimum row made).1 in
      let out = left_out class_rank (min 16 (length xs)) rows row d (same ∙ new) e.answer in
      record { fault = class_left classed code c spread minimum row made new quote (Some (book d)) (rw out.1 (sym (cond-false _ None (Some (book Full)) out.0))); state = rw (e.rows, e.room) refl }

-- ---- a series' own line
module _ (s : State) (l : Listing) (array : List ℤ) (row : Series) (made : Some row ≡ series_of l array) where
  line_rest : line_fault s l ≡ key_fault s row.key (full_fault s)
  line_rest =
      cond-true (line_fits l) (key_fault s (keyed l.key) (full_fault s)) (Some (book Limit)) (series_row_is l array row made).0
      ∙ ap (λ r. key_fault s r.key (full_fault s)) (sym (series_row_is l array row made).1)

  pub line_stopped : (h : Fault) → Some h ≡ key_fault s row.key None → Some h ≡ line_fault s l
  line_stopped h e = key_failed s row.key h (full_fault s) e ∙ sym line_rest

  pub line_left : (o : Option Fault) → None ≡ key_fault s row.key None → o ≡ full_fault s → o ≡ line_fault s l
  line_left o clear e = e ∙ sym (line_rest ∙ key_left s row.key (full_fault s) clear)

  -- with its array, the same
  pub listing_beyond : (h : Fault) → Some h ≡ values_fault array → Some h ≡ fault_of s (Listed l array)
  listing_beyond h e =
      let f = failed (values_fit array) (book Limit) h e in
      ap Some f.1 ∙ sym (cond-false (line_fits l && values_fit array) (key_fault s (keyed l.key) (full_fault s)) (Some (book Limit)) (and_right (line_fits l) (values_fit array) f.0))

  pub listing_rest : values_fit array ≡ true → (o : Option Fault) → o ≡ line_fault s l → o ≡ fault_of s (Listed l array)
  listing_rest vals o e =
      let fit = (series_row_is l array row made).0 in
      e ∙ cond-true (line_fits l) (key_fault s (keyed l.key) (full_fault s)) (Some (book Limit)) fit
      ∙ sym (cond-true (line_fits l && values_fit array) (key_fault s (keyed l.key) (full_fault s)) (Some (book Limit)) (and_from (line_fits l) (values_fit array) fit vals))

-- ---- a series is put in, or there is no room
module _ (l : Listing) (array : List ℤ) (row : Series) (made : Some row ≡ series_of l array) (vals : values_fit array ≡ true)
    (rates : List ℕ) (classes : List ClassRow) (room : ℕ) (rows xs rows' xs' : List Series) (clear : None ≡ key_fault (draft rates classes rows room (length xs)) row.key None) where
  abbrev listed_in : State
  listed_in = draft rates classes rows room (length xs)

  listing_left : (o : Option Fault) → o ≡ full_fault listed_in → o ≡ fault_of listed_in (Listed l array)
  listing_left o e = listing_rest listed_in l array row made vals o (line_left listed_in l array row made o clear e)

  pub listing_entered : (r : Result ℕ Refusal) → Entry series_rank 128 rows xs row r rows' xs' → Step listed_in (Listed l array) (entry_fault r) (draft rates classes rows' room (length xs'))
  listing_entered (Ok i) e =
      let put = put_in series_rank (min 128 (length xs)) rows row i e.answer in
      record {
        fault = listing_left None (sym (cond-true _ None (Some (book Full)) put.0));
        state = rw (e.rows, e.room, put.1) (ap (λ r. draft rates classes (joined series_rank r rows) room (length xs)) (series_row_is l array row made).1);
      }
  listing_entered (Err d) e =
      let new : is_some (sought series_rank (series_rank row) rows) ≡ false = not-true _ (key_passed listed_in row.key clear).0 in
      let out = left_out series_rank (min 128 (length xs)) rows row d new e.answer in
      record { fault = listing_left (Some (book d)) (rw out.1 (sym (cond-false _ None (Some (book Full)) out.0))); state = rw (e.rows, e.room) refl }
