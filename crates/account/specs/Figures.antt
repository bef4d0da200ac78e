-- The second half of rule 2: the class figure, and what is refused in a class.
use Rattle.std.specs.Prelude.{ℕ, ◌≤◌, cond, List, [], ◌∷◌, ℤ, pos, Ok, Err, Result, slice_index_or, unsigned_abs}
use Rattle.terms.specs.declared.codes.Code.{Code}
use Rattle.terms.specs.declared.names.Name.{Name}
use Rattle.terms.specs.declared.words.Basis.{Basis}
use Rattle.terms.specs.declared.words.Refusal.TheVariants.{TooLarge}
use Rattle.terms.specs.declared.words.Layer.TheVariants.{Account}
use Rattle.terms.specs.declared.faults.Fault.{Fault}
use Rattle.terms.specs.Faults.{refused, with_account, with_class}
use Rattle.sheet.specs.declared.rows.ClassRow.{ClassRow}
use Rattle.sheet.specs.declared.rows.Series.{Series}
use Rattle.sheet.specs.Given.{Terms, given}
use Rattle.sheet.specs.Rows.{beside}
use Rattle.charge.specs.Meanings.{Meaning}
use Rattle.charge.specs.Replies.{amount_answer}
use Rattle.account.specs.Outcomes.{beyond, and_then, plus, each}
use Rattle.account.specs.Pieces.{pieces, marks}

-- The account and the class are added to a fault's place.
abbrev pub in_class : Name → Code → Fault → Fault
in_class name code f = with_class code (with_account name f)

-- A fault goes up whole, with account and class added to its place.
abbrev pub handed_up : Name → Code → Result ℤ Fault → Result ℤ Fault
handed_up name code (Ok z) = Ok z
handed_up name code (Err f) = Err (in_class name code f)

-- The charge's amounts of the pieces, piece by piece, added up.
abbrev pub amounts : Meaning → Terms → List (List ℤ) → Result ℤ Fault
amounts m t [] = Ok (pos 0)
amounts m t (p ∷ ps) = and_then (amount_answer m t p) (λ x. plus x (amounts m t ps))

-- The figure of a position: the mark to market of its pieces, and then their charges; a mark that is too large is refusal 9 of the account's layer. A refusal names no place yet.
abbrev pub position_figure : Meaning → Basis → Terms → List ℤ → Result ℤ Fault
position_figure m b t position =
    cond (beyond (marks t.rows (pieces b position))) (Err (refused TooLarge Account))
    (plus (marks t.rows (pieces b position)) (amounts m t (pieces b position)))

-- The figure of a class is that of its position; the mark's refusal and a charge's own fault go up with account and class.
abbrev pub class_figure : Meaning → Name → Basis → Code → Terms → List ℤ → Result ℤ Fault
class_figure m name b code t position = handed_up name code (position_figure m b t position)

-- The figure of a class row: its terms and series, and the counts that stand beside these.
abbrev pub figure_of : Meaning → Name → Basis → List Series → List ℤ → ClassRow → Result ℤ Fault
figure_of m name b rows counts row = class_figure m name b row.code (given row rows) (beside row.code rows counts)

-- The class figures, class by class in the order of the codes.
abbrev pub figures_of : Meaning → Name → Basis → List Series → List ℤ → List ClassRow → Result (List ℤ) Fault
figures_of m name b rows counts classes = each (figure_of m name b rows counts) classes

-- ---- limits that the sums are formed within
-- Each class figure lies within 129 × 10^11 of zero: its mark and the amounts of at most 128 pieces.
abbrev pub Bounded : List ℤ → Type 0
Bounded figures = (k : ℕ) → unsigned_abs (slice_index_or figures k (pos 0)) ≤ 12900000000000
