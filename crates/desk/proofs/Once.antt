-- One outcome: what a line says decides what it does, and what an input says decides how its reading ends.
use Rattle.std.proofs.Common.{◌≡◌, ℕ, List, ℤ, Option, Some, None, Ok, Err, Result, MatchResult, refl, sym, ap, ap₂, subst, subst₂, ◌∙◌}
use Rattle.std.specs.Borrow.{Bor}
use Rattle.terms.specs.declared.faults.Fault.{Fault}
use Rattle.terms.specs.declared.words.Currency.{Currency}
use Rattle.terms.specs.Codes.{currency_of}
use Rattle.sheet.specs.State.{State as Draft, Use as Call, Step as Calls, after as written_by, values_fault, Class as AddClass, Rate as AddRate, Listed as AddSeries}
use Rattle.book.specs.State.{State as Book}
use Rattle.book.specs.Uses.{Use, Step, after, Opening, Posting, Closing, Moving}
use Rattle.collateral.specs.declared.records.Collateral.{Collateral}
use Rattle.lines.specs.Columns.{Is}
use Rattle.lines.specs.Records.{Entry, Sound, meant, written, class, series, array, rate, end, account, post, close_out, move, deposit}
use Rattle.lines.specs.Turns.{counted, on_array, on_book, on_sheet, part, turn}
use Rattle.lines.specs.declared.reader.Reader.{Reader}
use Rattle.lines.specs.declared.reader.Section.{Section}
use Rattle.lines.specs.declared.reader.Section.TheVariants.{Sheet, FirstArray, SecondArray, Book as AfterE}
use Rattle.lines.specs.declared.record.Record.{Record}
use Rattle.lines.specs.declared.record.Record.TheVariants.{Class, Series, Array, Rate, End, Account, Post, CloseOut, Move, Deposit}
use Rattle.desk.specs.declared.sheet_desk.Pending.{Pending}
use Rattle.desk.specs.Halves.{ended as whole}
use Rattle.desk.specs.Dealings.{Dealt, deals}
use Rattle.desk.specs.Listings.{Filled, Told, Valued, Written, listing, waiting, writes}
use Rattle.desk.specs.Runs.{Run, behind, ended, refused_line, taken_line}
use Rattle.desk.specs.Takings.{Answers, Due, NotDue, Takes, no_form, no_turn, not_due, faulty, taken, numbered}
use Rattle.stream.specs.Lines.{first_line}

-- a record that says this, whatever text its names are borrowed from
abbrev some_name : List ℕ → Bor (List ℕ)
some_name t = record { ref_ptr = (0, 0); now = t }

abbrev saying : Entry → Record
saying (class c k s m) = Class c k s m
saying (series k p n d) = Series k p n d
saying (array zs) = Array zs
saying (rate c r) = Rate c r
saying end = End
saying (account t b s) = Account (some_name t) b s
saying (post t k l n) = Post (some_name t) k l n
saying (close_out t k n) = CloseOut (some_name t) k n
saying (move t u k l n) = Move (some_name t) (some_name u) k l n
saying (deposit s c z) = Deposit s c z

-- what a record does depends on what it says alone
written_said : (section : Section) (s : Draft) (p : Option Pending) (o : Option Fault) (t : Draft) (q : Option Pending) (a : Record) → Written section a s p o t q → Written section (saying (meant a)) s p o t q
written_said section s p o t q (Class c k m n) w = w
written_said section s p o t q (Series k x n d) w = w
written_said section s p o t q (Array zs) w = w
written_said section s p o t q (Rate c r) w = w
written_said section s p o t q End w = w
written_said section s p o t q (Account n b d) w = w
written_said section s p o t q (Post n k l z) w = w
written_said section s p o t q (CloseOut n k z) w = w
written_said section s p o t q (Move x y k l z) w = w
written_said section s p o t q (Deposit d c z) w = w

dealt_said : (s : Book) (rates : List ℕ) (rs : List (List Collateral)) (o : Option Fault) (t : Book) (qs : List (List Collateral)) (a : Record) → Dealt a s rates rs o t qs → Dealt (saying (meant a)) s rates rs o t qs
dealt_said s rates rs o t qs (Class c k m n) w = w
dealt_said s rates rs o t qs (Series k x n d) w = w
dealt_said s rates rs o t qs (Array zs) w = w
dealt_said s rates rs o t qs (Rate c r) w = w
dealt_said s rates rs o t qs End w = w
dealt_said s rates rs o t qs (Account n b d) w = w
dealt_said s rates rs o t qs (Post n k l z) w = w
dealt_said s rates rs o t qs (CloseOut n k z) w = w
dealt_said s rates rs o t qs (Move x y k l z) w = w
dealt_said s rates rs o t qs (Deposit d c z) w = w

part_said : (a : Record) → part a ≡ part (saying (meant a))
part_said (Class c k m n) = refl
part_said (Series k x n d) = refl
part_said (Array zs) = refl
part_said (Rate c r) = refl
part_said End = refl
part_said (Account n b d) = refl
part_said (Post n k l z) = refl
part_said (CloseOut n k z) = refl
part_said (Move x y k l z) = refl
part_said (Deposit d c z) = refl

-- two records that say the same have one turn
module _ (a b : Record) (same : meant a ≡ meant b) where
  part_once : part a ≡ part b
  part_once = part_said a ∙ ap (λ x. part (saying x)) same ∙ sym (part_said b)

  pub turn_once : (section : Section) → turn section a ≡ turn section b
  turn_once Sheet = ap on_sheet part_once
  turn_once FirstArray = ap (on_array SecondArray) part_once
  turn_once SecondArray = ap (on_array Sheet) part_once
  turn_once AfterE = ap on_book part_once

-- two outcomes that are the same
pub record Same {D : Type 0} (o : Option Fault) (d : D) (q : Option Fault) (e : D) : Type 0 where
  pub fault : o ≡ q
  pub state : d ≡ e

-- what the lines before E write
module _ (s : Draft) (p : Option Pending) (o o2 : Option Fault) (t t2 : Draft) (q q2 : Option Pending) where
  abbrev Alike : Type 0
  Alike = (o ≡ o2) × (t ≡ t2) × (q ≡ q2)

  given : {f : Option Fault} {u : Draft} {w : Option Pending} → (o ≡ f) × (t ≡ u) × (q ≡ w) → (o2 ≡ f) × (t2 ≡ u) × (q2 ≡ w) → Alike
  given (x, y, z) (x2, y2, z2) = (x ∙ sym x2, y ∙ sym y2, z ∙ sym z2)

  called : (u : Call) {w : Option Pending} → Calls s u o t × (q ≡ w) → Calls s u o2 t2 × (q2 ≡ w) → Alike
  called u (c, z) (c2, z2) =
      let f = c.fault ∙ sym c2.fault in
      (f, c.state ∙ ap (written_by s u) f ∙ sym c2.state, z ∙ sym z2)

  told_once : (c : Option Currency) (call : Currency → Call) → Told c call s p o t q → Told c call s p o2 t2 q2 → Alike
  told_once None call a b = given a b
  told_once (Some c) call a b = called (call c) a b

  filled_once : (section : Section) (zs : List ℤ) → Filled section zs s p o t q → Filled section zs s p o2 t2 q2 → Alike
  filled_once section zs = by section p
    where
      by : (section : Section) (p : Option Pending) → Filled section zs s p o t q → Filled section zs s p o2 t2 q2 → Alike
      by section None a b = given a b
      by FirstArray (Some w) a b = given a b
      by Sheet (Some w) a b = called (AddSeries w.listing (whole w.array zs)) a b
      by SecondArray (Some w) a b = called (AddSeries w.listing (whole w.array zs)) a b
      by AfterE (Some w) a b = called (AddSeries w.listing (whole w.array zs)) a b

  valued_once : (f : Option Fault) (section : Section) (zs : List ℤ) → Valued f section zs s p o t q → Valued f section zs s p o2 t2 q2 → Alike
  valued_once (Some f) section zs a b = given a b
  valued_once None section zs a b = filled_once section zs a b

  written_once : (section : Section) (r : Record) → Written section r s p o t q → Written section r s p o2 t2 q2 → Alike
  written_once section (Class c k m n) a b = told_once (currency_of k) (λ k. AddClass c k m n) a b
  written_once section (Series k x n d) (f, d1, w) (f2, d2, w2) =
      let l = listing k x n d in
      let same = f ∙ sym f2 in
      (same, d1 ∙ sym d2, w ∙ ap (waiting l p) same ∙ sym w2)
  written_once section (Array zs) a b = valued_once (values_fault zs) section zs a b
  written_once section (Rate c z) a b = told_once (currency_of c) (λ k. AddRate k z) a b
  written_once section End a b = given a b
  written_once section (Account n c d) a b = given a b
  written_once section (Post n k l z) a b = given a b
  written_once section (CloseOut n k z) a b = given a b
  written_once section (Move x y k l z) a b = given a b
  written_once section (Deposit d c z) a b = given a b

-- what the lines after E deal
module _ (s : Book) (rates : List ℕ) (rs : List (List Collateral)) (o o2 : Option Fault) (t t2 : Book) (qs qs2 : List (List Collateral)) where
  abbrev AlikeDealt : Type 0
  AlikeDealt = (o ≡ o2) × (t ≡ t2) × (qs ≡ qs2)

  used : (u : Use) → Step s u o t × (qs ≡ rs) → Step s u o2 t2 × (qs2 ≡ rs) → AlikeDealt
  used u (c, z) (c2, z2) =
      let f = c.fault ∙ sym c2.fault in
      (f, c.state ∙ ap (after s u) f ∙ sym c2.state, z ∙ sym z2)

  as_given : {f : Option Fault} {u : Book} {w : List (List Collateral)} → (o ≡ f) × (t ≡ u) × (qs ≡ w) → (o2 ≡ f) × (t2 ≡ u) × (qs2 ≡ w) → AlikeDealt
  as_given (x, y, z) (x2, y2, z2) = (x ∙ sym x2, y ∙ sym y2, z ∙ sym z2)

  dealt_once : (r : Record) → Dealt r s rates rs o t qs → Dealt r s rates rs o2 t2 qs2 → AlikeDealt
  dealt_once (Account n c d) a b = used (Opening n.now c d) a b
  dealt_once (Post n k l z) a b = used (Posting n.now k l z) a b
  dealt_once (CloseOut n k z) a b = used (Closing n.now k z) a b
  dealt_once (Move x y k l z) a b = used (Moving x.now y.now k l z) a b
  dealt_once (Deposit d c z) a b = as_given a b
  dealt_once (Class c k m n) a b = as_given a b
  dealt_once (Series k x n d) a b = as_given a b
  dealt_once (Array zs) a b = as_given a b
  dealt_once (Rate c z) a b = as_given a b
  dealt_once End a b = as_given a b

-- two records that say the same do one thing
abbrev pub JudgesOnce : {D : Type 0} → (D → Section → Record → Option Fault → D → Type 0) → Type 0
JudgesOnce {D} judged = (section : Section) (d : D) (a b : Record) (o q : Option Fault) (e g : D) → meant a ≡ meant b → judged d section a o e → judged d section b q g → Same o e q g

pub writes_once : JudgesOnce writes
writes_once section d a b o q e g same x y =
    let one = subst (λ r. Written section (saying r) d.draft d.waits o e.draft e.waits) same (written_said section d.draft d.waits o e.draft e.waits a x) in
    let two = written_said section d.draft d.waits q g.draft g.waits b y in
    let alike = written_once d.draft d.waits o q e.draft g.draft e.waits g.waits section (saying (meant b)) one two in
    record { fault = alike.0; state = ap₂ (λ s w. record { draft = s; waits = w }) alike.1 alike.2 }

pub deals_once : JudgesOnce deals
deals_once section d a b o q e g same (x, kept) (y, kept2) =
    let one = subst (λ r. Dealt (saying r) d.book d.rates d.records o e.book e.records) same (dealt_said d.book d.rates d.records o e.book e.records a x) in
    let two = dealt_said d.book d.rates d.records q g.book g.records b y in
    let alike = dealt_once d.book d.rates d.records o q e.book g.book e.records g.records (saying (meant b)) one two in
    record { fault = alike.0; state = ap (λ b. record { book = b; rates = e.rates; records = e.records }) alike.1 ∙ ap₂ (λ x w. record { book = g.book; rates = x; records = w }) (kept ∙ sym kept2) alike.2 }

-- a line says one thing
one_record : {line : List ℕ} (a b : Record) → Is written Sound line (meant a) → Is written Sound line (meant b) → meant a ≡ meant b
one_record a b is is2 = is2.only (meant a) is.fit is.reads

-- it is due or not
module _ {line : List ℕ} {reader : Reader} where
  never_both : {f : Fault} {rec : Record} {next : Reader} → NotDue line reader f → Due line reader rec next → ⊥
  never_both {rec = rec} (no_form isnt e) due = isnt (meant rec) due.form.fit due.form.reads
  never_both {rec = rec} {next = next} (no_turn a is none e) due =
      let same = turn_once a rec (one_record a rec is due.form) reader.section in
      let some : None ≡ Some next.section = sym none ∙ same ∙ due.turns in
      cc

  not_due_once : (f g : Fault) → NotDue line reader f → NotDue line reader g → f ≡ g
  not_due_once f g (no_form isnt e) (no_form isnt2 e2) = e ∙ sym e2
  not_due_once f g (no_form isnt e) (no_turn a is none e2) = absurd (isnt (meant a) is.fit is.reads)
  not_due_once f g (no_turn a is none e) (no_form isnt e2) = absurd (isnt (meant a) is.fit is.reads)
  not_due_once f g (no_turn a is none e) (no_turn b is2 none2 e2) = e ∙ sym e2

  one_turn : (a b : Record) (n m : Reader) → Due line reader a n → Due line reader b m → n ≡ m
  one_turn a b n m due due2 =
      let same = turn_once a b (one_record a b due.form due2.form) reader.section in
      let turns : Some n.section ≡ Some m.section = sym due.turns ∙ same ∙ due2.turns in
      let section : n.section ≡ m.section = cc in
      let lines : n.line ≡ m.line = due.counts ∙ sym due2.counts in
      ap₂ (λ s l. record { section = s; line = l }) section lines

module _ {D : Type 0} (judged : D → Section → Record → Option Fault → D → Type 0) (judges_once : JudgesOnce judged) where
  -- a line has one answer
  pub answers_once : (line : List ℕ) (reader : Reader) (d : D) (r q : Result Reader Fault) (e g : D) → Answers judged line reader d r e → Answers judged line reader d q g → (r ≡ q) × (e ≡ g)
  answers_once line reader d r q e g (not_due f n x y) (not_due f2 n2 x2 y2) = (x ∙ ap Err (not_due_once f f2 n n2) ∙ sym x2, y ∙ sym y2)
  answers_once line reader d r q e g (not_due f n x y) (faulty a next f2 due j x2) = absurd (never_both n due)
  answers_once line reader d r q e g (not_due f n x y) (taken a next due j x2) = absurd (never_both n due)
  answers_once line reader d r q e g (faulty a next f2 due j x2) (not_due f n x y) = absurd (never_both n due)
  answers_once line reader d r q e g (taken a next due j x2) (not_due f n x y) = absurd (never_both n due)
  answers_once line reader d r q e g (faulty a next f due j x) (faulty b next2 f2 due2 j2 x2) =
      let same = judges_once reader.section d a b (Some f) (Some f2) e g (one_record a b due.form due2.form) j j2 in
      let fault : Some f ≡ Some f2 = same.fault in
      (cc, same.state)
  answers_once line reader d r q e g (faulty a next f due j x) (taken b next2 due2 j2 x2) =
      let same = judges_once reader.section d a b (Some f) None e g (one_record a b due.form due2.form) j j2 in
      let fault : Some f ≡ None = same.fault in
      absurd cc
  answers_once line reader d r q e g (taken a next due j x) (faulty b next2 f2 due2 j2 x2) =
      let same = judges_once reader.section d a b None (Some f2) e g (one_record a b due.form due2.form) j j2 in
      let fault : None ≡ Some f2 = same.fault in
      absurd cc
  answers_once line reader d r q e g (taken a next due j x) (taken b next2 due2 j2 x2) =
      let same = judges_once reader.section d a b None None e g (one_record a b due.form due2.form) j j2 in
      (x ∙ ap Ok (one_turn a b next next2 due due2) ∙ sym x2, same.state)

  -- a line is taken or refused in one way
  told_alike : (line : List ℕ) (reader s t : Reader) (answer : Result Reader Fault) (r q : Result Unit Fault)
      → MatchResult r (λ _. answer ≡ Ok s) (λ f. (answer ≡ Err f) × (s ≡ reader))
      → MatchResult q (λ _. answer ≡ Ok t) (λ f. (answer ≡ Err f) × (t ≡ reader)) → (r ≡ q) × (s ≡ t)
  told_alike line reader s t answer (Ok u) (Ok v) x y = (refl, cc)
  told_alike line reader s t answer (Ok u) (Err f) x y = absurd cc
  told_alike line reader s t answer (Err f) (Ok v) x y = absurd cc
  told_alike line reader s t answer (Err f) (Err g) x y = (cc, x.1 ∙ sym y.1)

  pub takes_once : (line : List ℕ) (reader : Reader) (d : D) (r q : Result Unit Fault) (s t : Reader) (e g : D) → Takes judged line reader d r s e → Takes judged line reader d q t g → (r ≡ q) × (s ≡ t) × (e ≡ g)
  takes_once line reader d r q s t e g x y =
      let same = answers_once line reader d x.answer y.answer e g x.answered y.answered in
      let two = subst (λ a. MatchResult q (λ _. numbered (counted reader.line) a ≡ Ok t) (λ f. (numbered (counted reader.line) a ≡ Err f) × (t ≡ reader))) (sym same.0) y.told in
      let told = told_alike line reader s t (numbered (counted reader.line) x.answer) r q x.told two in
      (told.0, told.1, same.1)

  module _ (over : Reader → List ℕ → Option (Option Fault)) where
    -- an input is read in one way
    pub run_once : (xs : List ℕ) (r : Reader) (d : D) (o : Option Fault) (ys : List ℕ) (t : Reader) (e : D) → Run judged over xs r d o ys t e
        → (q : Option Fault) (zs : List ℕ) (u : Reader) (g : D) → Run judged over xs r d q zs u g → (o ≡ q) × (ys ≡ zs) × (t ≡ u) × (e ≡ g)
    run_once xs r d o ys t e (ended _ _ _ _ x) q zs u g (ended _ _ _ _ y) =
        let over : Some o ≡ Some q = sym x ∙ y in
        (cc, refl, refl, refl)
    run_once xs r d o ys t e (ended _ _ _ _ x) q zs u g (refused_line _ _ _ f2 _ _ y takes2) =
        let over : Some o ≡ None = sym x ∙ y in
        absurd cc
    run_once xs r d o ys t e (ended _ _ _ _ x) q zs u g (taken_line _ _ _ s2 c2 _ _ _ _ y takes2 more2) =
        let over : Some o ≡ None = sym x ∙ y in
        absurd cc
    run_once xs r d o ys t e (refused_line _ _ _ f _ _ x takes) q zs u g (ended _ _ _ _ y) =
        let over : None ≡ Some q = sym x ∙ y in
        absurd cc
    run_once xs r d o ys t e (refused_line _ _ _ f _ _ x takes) q zs u g (refused_line _ _ _ f2 _ _ y takes2) =
        let same = takes_once (first_line xs) r d (Err f) (Err f2) t u e g takes takes2 in
        let fault : Err f ≡ Err f2 = same.0 in
        (cc, refl, same.1, same.2)
    run_once xs r d o ys t e (refused_line _ _ _ f _ _ x takes) q zs u g (taken_line _ _ _ s2 c2 _ _ _ _ y takes2 more2) =
        let same = takes_once (first_line xs) r d (Err f) (Ok tt) t s2 e c2 takes takes2 in
        let fault : Err f ≡ Ok tt = same.0 in
        absurd cc
    run_once xs r d o ys t e (taken_line _ _ _ s c _ _ _ _ x takes more) q zs u g (ended _ _ _ _ y) =
        let over : None ≡ Some q = sym x ∙ y in
        absurd cc
    run_once xs r d o ys t e (taken_line _ _ _ s c _ _ _ _ x takes more) q zs u g (refused_line _ _ _ f2 _ _ y takes2) =
        let same = takes_once (first_line xs) r d (Ok tt) (Err f2) s u c g takes takes2 in
        let fault : Ok tt ≡ Err f2 = same.0 in
        absurd cc
    run_once xs r d o ys t e (taken_line _ _ _ s c _ _ _ _ x takes more) q zs u g (taken_line _ _ _ s2 c2 _ _ _ _ y takes2 more2) =
        let same = takes_once (first_line xs) r d (Ok tt) (Ok tt) s s2 c c2 takes takes2 in
        let rest = subst₂ (λ s c. Run judged over (behind xs) s c q zs u g) (sym same.1) (sym same.2) more2 in
        run_once (behind xs) s c o ys t e more q zs u g rest
