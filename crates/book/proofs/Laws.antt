-- The law of a book: what is counted, and what is asked, in every run from a book without accounts.
use Rattle.std.proofs.Common.{◌≡◌, ℕ, ◌≤◌, List, [], length, pos, ◌+ℤ◌, ◌≤ℤ◌, Some, None, Ok, Err, Option, All, subst, sym, arith}
use Rattle.std.specs.Prelude.{⊤}
use Rattle.std.proofs.lemmas.List.Elements.{All-nil, All-cons, All-append, All-same, All-weaker, All-contains}
use borrow.Author.Differences.{ints}
use Rattle.terms.specs.declared.faults.Fault.{Fault}
use Rattle.sheet.specs.declared.sheets.Sheet.{Sheet}
use Rattle.book.specs.Events.{Inquiry, Report, Pool, Answered, reports, pools, Event, Meanwhile, Happens, makes, asks, tries, Run, none, next}
use Rattle.book.specs.Law.{asked_in, inquiries, Owes, BookLaw}
use Rattle.book.specs.State.{State}
use Rattle.book.specs.Uses.{Use, Opening, Posting, Closing, Moving, done, after}
use Rattle.book.proofs.Conserved.{held_is_posted}
use Rattle.book.proofs.Covers.{On, own_lawful, row_plain, named_lawful, pooled_lawful}

-- what the law says of an answer
abbrev Sound : List ℕ → Inquiry → Type 0
Sound rates (Report m x (Ok r)) = Owes rates r
Sound rates (Report m x (Err f)) = ⊤
Sound rates (Pool m o (Ok p)) = p.value ≤ℤ (pos p.summed +ℤ p.allowance)
Sound rates (Pool m o (Err f)) = ⊤

module _ (sheet : Sheet) where
  -- the sheet stays under the book
  on_done : (s : State) (u : Use) → On sheet s → On sheet (done s u)
  on_done s (Opening t b d) h = record { rates = h.rates; classes = h.classes; series = h.series }
  on_done s (Posting t k m n) h = record { rates = h.rates; classes = h.classes; series = h.series }
  on_done s (Closing t k n) h = record { rates = h.rates; classes = h.classes; series = h.series }
  on_done s (Moving a b k m n) h = record { rates = h.rates; classes = h.classes; series = h.series }

  on_after : (s : State) (u : Use) (o : Option Fault) → On sheet s → On sheet (after s u o)
  on_after s u None h = on_done s u h
  on_after s u (Some f) h = h

  on_over : {s : State} {e : Event} {t : State} → Happens s e t → On sheet s → On sheet t
  on_over {s} (makes {u = u} {o = o} step) h = subst (On sheet) (sym step.state) (on_after s u o h)
  on_over (asks a) h = h
  on_over (tries e w) h = h

  -- what a book on the sheet answers is sound
  answer_sound : (s : State) → On sheet s → (q : Inquiry) → Answered s q → Sound sheet.rates.by_number q
  answer_sound s h (Report m x (Ok r)) (reports law e) = rw (← h.rates) (named_lawful sheet s h m x r (sym e))
  answer_sound s h (Report m x (Err f)) a = tt
  answer_sound s h (Pool m o (Ok p)) (pools law e) = pooled_lawful sheet s h m law o p (sym e)
  answer_sound s h (Pool m o (Err f)) a = tt

  meanwhile_sound : (s : State) → On sheet s → (u : Use) (o : Option Fault) (qs : List Inquiry) → Meanwhile s u o qs → All (Sound sheet.rates.by_number) qs
  meanwhile_sound s h u None qs w = All-weaker (Answered (done s u)) (Sound sheet.rates.by_number) (answer_sound (done s u) (on_done s u h)) qs w
  meanwhile_sound s h u (Some f) qs w = All-same (Sound sheet.rates.by_number) qs [] w (All-nil (Sound sheet.rates.by_number))

  event_sound : {s : State} {e : Event} {t : State} → Happens s e t → On sheet s → All (Sound sheet.rates.by_number) (asked_in e)
  event_sound (makes step) h = All-nil (Sound sheet.rates.by_number)
  event_sound {s} (asks {a = q} a) h = All-cons (Sound sheet.rates.by_number) q [] (answer_sound s h q a) (All-nil (Sound sheet.rates.by_number))
  event_sound {s} (tries {u = u} {o = o} {qs = qs} e w) h = meanwhile_sound s h u o qs w

  run_sound : {s : State} {es : List Event} {t : State} → Run s es t → On sheet s → All (Sound sheet.rates.by_number) (inquiries es)
  run_sound none h = All-nil (Sound sheet.rates.by_number)
  run_sound (next e {es = es} step r) h = All-append (Sound sheet.rates.by_number) (asked_in e) (inquiries es) (event_sound step h) (run_sound r (on_over step h))

  on_run : {s : State} {es : List Event} {t : State} → Run s es t → On sheet s → On sheet t
  on_run none h = h
  on_run (next e step r) h = on_run r (on_over step h)

  pub book_law : (s : State) → s.accounts ≡ [] → length s.series ≤ 128 → On sheet s → BookLaw s
  book_law s new short h es t run =
      let there : On sheet t = on_run run h in
      let sound = subst (λ rates. All (Sound rates) (inquiries es)) (sym there.rates) (run_sound run h) in
      record {
        counts = held_is_posted s new short es t run;
        pools = λ m o p at. let le = All-contains (Sound t.rates) (inquiries es) (Pool m o (Ok p)) sound at in omega (arith, ints, le);
        accounts = own_lawful sheet t there;
        figures = row_plain sheet t there;
        reports = λ m x r at. All-contains (Sound t.rates) (inquiries es) (Report m x (Ok r)) sound at;
      }
