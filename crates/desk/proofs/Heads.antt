-- How a reading ends is decided by the lines up to the one where it ends.
use Rattle.std.proofs.Common.{◌≡◌, ℕ, zero, suc, ◌+◌, ◌-◌, ◌<◌, ◌≤◌, Bool, true, false, if◌then◌else◌, nat_lt, List, [], ◌∷◌, Option, Some, None, Ok, Err, Result, refl, sym, ap, subst, ◌∙◌, arith, take, ◌==◌}
use Rattle.std.proofs.lemmas.Bool.{ltb-true}
use Rattle.terms.specs.declared.faults.Fault.{Fault}
use Rattle.terms.specs.Faults.{refused, with_line}
use Rattle.terms.specs.declared.words.Refusal.TheVariants.{Full}
use Rattle.terms.specs.declared.words.Layer.TheVariants.{Line}
use Rattle.std.specs.Io.BufRead.{take_through}
use Rattle.lines.specs.Turns.{counted}
use Rattle.lines.specs.declared.reader.Reader.{Reader}
use Rattle.lines.specs.declared.reader.Section.{Section}
use Rattle.lines.specs.declared.reader.Section.TheVariants.{Sheet, FirstArray, SecondArray, Book}
use Rattle.lines.specs.declared.record.Record.{Record}
use Rattle.stream.specs.Lines.{first_line}
use Rattle.desk.specs.Runs.{Run, behind, early, first_lines, sheet_over, with_input, with_sheet, ended, refused_line, taken_line}
use Rattle.desk.specs.Takings.{Answers, Takes, not_due, faulty, taken, numbered, stands}

abbrev ok : Reader → Result Reader Fault
ok r = Ok r

abbrev err : Fault → Result Reader Fault
err f = Err f

-- an answer at its line
if_ok : (r s : Reader) (g : Fault) (n : ℕ) (b : Bool) → (b ≡ true → n < 1000000) → (if b then ok r else err g) ≡ ok s → (ok r ≡ ok s) × (n < 1000000)
if_ok r s g n true lt e = (e, lt refl)
if_ok r s g n false lt e = absurd cc

line_of : (n : ℕ) (g f : Fault) → err (with_line n g) ≡ err f → f.place.line ≡ Some n
line_of n g f e =
    let fault : with_line n g ≡ f = cc in
    ap (λ f. f.place.line) (sym fault)

goes_on : (n : ℕ) (answer : Result Reader Fault) (s : Reader) → numbered n answer ≡ Ok s → (answer ≡ Ok s) × (n < 1000000)
goes_on n (Err f) s e = absurd cc
goes_on n (Ok r) s e = if_ok r s (with_line n (refused Full Line)) n (nat_lt n 1000000) (λ t. ltb-true n 1000000 t) e

names : (n : ℕ) (answer : Result Reader Fault) (f : Fault) → numbered n answer ≡ Err f → f.place.line ≡ Some n
names n (Err g) f e = line_of n (if stands n g then g else refused Full Line) f e
names n (Ok r) f e = by (nat_lt n 1000000) e
  where
    by : (b : Bool) → (if b then ok r else err (with_line n (refused Full Line))) ≡ err f → f.place.line ≡ Some n
    by true e = absurd cc
    by false e = line_of n (refused Full Line) f e

-- an input that is not empty has a line
has_bytes : (x : ℕ) (xs : List ℕ) → [] ≡ take_through 10 (x ∷ xs) → ⊥
has_bytes x xs e = by (x == 10) e
  where
    by : (b : Bool) → [] ≡ (if b then x ∷ [] else x ∷ take_through 10 xs) → ⊥
    by true e = cc
    by false e = cc

-- whether it is over depends on the next line alone, and what ends it early names that line
pub record ByLine (over : Reader → List ℕ → Option (Option Fault)) : Type 0 where
  pub alike : (r : Reader) (xs ys : List ℕ) → first_line xs ≡ first_line ys → over r xs ≡ over r ys
  pub named : (r : Reader) (xs : List ℕ) (f : Fault) → over r xs ≡ Some (Some f) → f.place.line ≡ Some (counted r.line)

input_alike : (r : Reader) (xs ys : List ℕ) → first_line xs ≡ first_line ys → with_input r xs ≡ with_input r ys
input_alike r [] [] e = refl
input_alike r [] (y ∷ ys) e = absurd (has_bytes y (take 81 ys) e)
input_alike r (x ∷ xs) [] e = absurd (has_bytes x (take 81 xs) (sym e))
input_alike r (x ∷ xs) (y ∷ ys) e = refl

pub input_by_line : ByLine with_input
input_by_line = record { alike = input_alike; named = named }
  where
    named : (r : Reader) (xs : List ℕ) (f : Fault) → with_input r xs ≡ Some (Some f) → f.place.line ≡ Some (counted r.line)
    named r [] f e = absurd cc
    named r (x ∷ xs) f e = absurd cc

pub sheet_by_line : ByLine with_sheet
sheet_by_line = record { alike = λ r xs ys e. alike r.section r xs ys e; named = λ r xs f e. named r.section r xs f e }
  where
    alike : (s : Section) (r : Reader) (xs ys : List ℕ) → first_line xs ≡ first_line ys → sheet_over s r xs ≡ sheet_over s r ys
    alike Book r xs ys e = refl
    alike Sheet r [] [] e = refl
    alike FirstArray r [] [] e = refl
    alike SecondArray r [] [] e = refl
    alike s r [] (y ∷ ys) e = absurd (has_bytes y (take 81 ys) e)
    alike s r (x ∷ xs) [] e = absurd (has_bytes x (take 81 xs) (sym e))
    alike Sheet r (x ∷ xs) (y ∷ ys) e = refl
    alike FirstArray r (x ∷ xs) (y ∷ ys) e = refl
    alike SecondArray r (x ∷ xs) (y ∷ ys) e = refl

    ends : (r : Reader) (f : Fault) → Some (Some (early r)) ≡ Some (Some f) → f.place.line ≡ Some (counted r.line)
    ends r f e =
        let fault : early r ≡ f = cc in
        ap (λ f. f.place.line) (sym fault)

    named : (s : Section) (r : Reader) (xs : List ℕ) (f : Fault) → sheet_over s r xs ≡ Some (Some f) → f.place.line ≡ Some (counted r.line)
    named Book r xs f e = absurd cc
    named Sheet r [] f e = ends r f e
    named FirstArray r [] f e = ends r f e
    named SecondArray r [] f e = ends r f e
    named Sheet r (x ∷ xs) f e = absurd cc
    named FirstArray r (x ∷ xs) f e = absurd cc
    named SecondArray r (x ∷ xs) f e = absurd cc

-- the line that is taken is counted, and a fault names the line that is refused
module _ {D : Type 0} (judged : D → Section → Record → Option Fault → D → Type 0) where
  takes_on : (line : List ℕ) (r s : Reader) (d e : D) → Takes judged line r d (Ok tt) s e → (s.line ≡ r.line + 1) × (s.line < 1000000)
  takes_on line r s d e takes =
      let on = goes_on (counted r.line) takes.answer s takes.told in
      let counts = by takes.answer takes.answered on.0 in
      (omega (arith, counts, on.1), omega (arith, counts, on.1))
    where
      by : (answer : Result Reader Fault) → Answers judged line r d answer e → answer ≡ Ok s → s.line ≡ counted r.line
      by answer (not_due f n x y) ok = absurd cc
      by answer (faulty a next f due j x) ok = absurd cc
      by answer (taken a next due j x) ok =
          let reader : next ≡ s = cc in
          ap (λ r. r.line) (sym reader) ∙ due.counts

  refused_at : (line : List ℕ) (r s : Reader) (d e : D) (f : Fault) → Takes judged line r d (Err f) s e → (s ≡ r) × (f.place.line ≡ Some (counted r.line))
  refused_at line r s d e f takes = (takes.told.1, names (counted r.line) takes.answer f takes.told.0)

  module _ (over : Reader → List ℕ → Option (Option Fault)) (by_line : ByLine over) where
    -- a reader only goes on, and not to line 1,000,000
    pub goes_up : (xs : List ℕ) (r : Reader) (d : D) (o : Option Fault) (zs : List ℕ) (t : Reader) (g : D) → Run judged over xs r d o zs t g → r.line < 1000000 → (r.line ≤ t.line) × (t.line < 1000000)
    goes_up xs r d o zs t g (ended _ _ _ _ x) lt = (omega arith, lt)
    goes_up xs r d o zs t g (refused_line _ _ _ f _ _ x takes) lt =
        let same = ap (λ r. r.line) (refused_at (first_line xs) r t d g f takes).0 in
        (omega (arith, same), omega (arith, same))
    goes_up xs r d o zs t g (taken_line _ _ _ s c _ _ _ _ x takes more) lt =
        let one = takes_on (first_line xs) r s d c takes in
        let on = goes_up (behind xs) s c o zs t g more one.1 in
        (omega (arith, on.0, one.0), on.1)

    -- a fault names the line where the reading ends
    pub fault_line : (xs : List ℕ) (r : Reader) (d : D) (o : Option Fault) (zs : List ℕ) (t : Reader) (g : D) → Run judged over xs r d o zs t g → (f : Fault) → o ≡ Some f → f.place.line ≡ Some (counted t.line)
    fault_line xs r d o zs t g (ended _ _ _ _ x) f e = by_line.named r xs f (x ∙ ap Some e)
    fault_line xs r d o zs t g (refused_line _ _ _ f2 _ _ x takes) f e =
        let at = refused_at (first_line xs) r t d g f2 takes in
        let same : f2 ≡ f = cc in
        ap (λ f. f.place.line) (sym same) ∙ at.1 ∙ ap (λ r. Some (counted r.line)) (sym at.0)
    fault_line xs r d o zs t g (taken_line _ _ _ s c _ _ _ _ x takes more) f e = fault_line (behind xs) s c o zs t g more f e

    -- an input with the same lines up to there is read to the same end
    pub record AlsoRuns (m : ℕ) (ys : List ℕ) (r : Reader) (d : D) (o : Option Fault) (zs : List ℕ) (t : Reader) (g : D) : Type 0 where
      pub rest : List ℕ
      pub run : Run judged over ys r d o rest t g
      pub lines : o ≡ None → first_lines (r.line + m - t.line) zs ≡ first_lines (r.line + m - t.line) rest

    pub runs_by_lines : (xs : List ℕ) (r : Reader) (d : D) (o : Option Fault) (zs : List ℕ) (t : Reader) (g : D) → Run judged over xs r d o zs t g → r.line < 1000000
        → (m : ℕ) (ys : List ℕ) → t.line < r.line + m → first_lines m xs ≡ first_lines m ys → AlsoRuns m ys r d o zs t g
    runs_by_lines xs r d o zs t g run lt zero ys below same =
        let up = goes_up xs r d o zs t g run lt in
        absurd (omega (arith, up.0, below))
    runs_by_lines xs r d o zs t g (ended _ _ _ _ x) lt (suc m) ys below same =
        let head : first_line xs ≡ first_line ys = cc in
        let all : r.line + suc m - r.line ≡ suc m = omega arith in
        record {
          rest = ys;
          run = ended ys r d o (sym (by_line.alike r xs ys head) ∙ x);
          lines = λ none. rw all same;
        }
    runs_by_lines xs r d o zs t g (refused_line _ _ _ f _ _ x takes) lt (suc m) ys below same =
        let head : first_line xs ≡ first_line ys = cc in
        record {
          rest = behind ys;
          run = refused_line ys r d f t g (sym (by_line.alike r xs ys head) ∙ x) (subst (λ l. Takes judged l r d (Err f) t g) head takes);
          lines = λ none. absurd cc;
        }
    runs_by_lines xs r d o zs t g (taken_line _ _ _ s c _ _ _ _ x takes more) lt (suc m) ys below same =
        let head : first_line xs ≡ first_line ys = cc in
        let tail : first_lines m (behind xs) ≡ first_lines m (behind ys) = cc in
        let one = takes_on (first_line xs) r s d c takes in
        let on : t.line < s.line + m = omega (arith, one.0, below) in
        let ends = runs_by_lines (behind xs) s c o zs t g more one.1 m (behind ys) on tail in
        let count : s.line + m ≡ r.line + suc m = omega (arith, one.0) in
        record {
          rest = ends.rest;
          run = taken_line ys r d s c o ends.rest t g (sym (by_line.alike r xs ys head) ∙ x) (subst (λ l. Takes judged l r d (Ok tt) s c) head takes) ends.run;
          lines = λ none. subst (λ k. first_lines (k - t.line) zs ≡ first_lines (k - t.line) ends.rest) count (ends.lines none);
        }
