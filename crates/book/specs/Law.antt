-- The law of a book, whatever is done with it: of its counts, its pools, and what its accounts owe.
use Rattle.std.specs.Prelude.{◌≡◌, ℕ, ◌+◌, Bool, cond, ◌&&◌, List, [], ◌∷◌, pos, ◌-ℤ◌, ◌≤ℤ◌, Some, None, Ok, Option, ◌==◌, sum_by, Contains, flat_map}
use borrow.Author.Differences.{up}
use Rattle.std.specs.Ordering.{is_eq}
use Rattle.terms.specs.declared.words.Leg.{Leg}
use Rattle.terms.specs.declared.words.Side.{Side}
use Rattle.terms.specs.declared.keys.SeriesKey.{SeriesKey}
use Rattle.terms.specs.Keys.{figured}
use Rattle.terms.specs.Order.{order}
use Rattle.terms.specs.Words.{leg_number}
use Rattle.charge.specs.Meanings.{Meaning}
use Rattle.account.specs.declared.rule.AccountReport.{AccountReport}
use Rattle.account.specs.Offset.{Law}
use Rattle.account.specs.Sums.{value_of}
use Rattle.book.specs.declared.rows.AccountRow.{AccountRow}
use Rattle.book.specs.Events.{Inquiry, Report, Pool, Event, Made, Asked, Tried, Run}
use Rattle.book.specs.Limits.{asked}
use Rattle.book.specs.declared.pooling.PoolFigures.{PoolFigures}
use Rattle.book.specs.Reports.{own_report, row_report}
use Rattle.book.specs.State.{State, held}
use Rattle.book.specs.Found.{listed}
use Rattle.book.specs.Uses.{Use, Opening, Posting, Closing, Moving}

-- two keys are of one series; two legs are one
abbrev pub same_series : SeriesKey → SeriesKey → Bool
same_series p q = is_eq (order (figured p) (figured q))

abbrev pub same_leg : Leg → Leg → Bool
same_leg m l = leg_number m == leg_number l

-- the contracts that a use posts to a series and a leg, and those that it closes out of both legs of a series
abbrev pub posts : SeriesKey → Leg → Use → ℕ
posts q l (Opening t b d) = 0
posts q l (Posting t k m n) = cond (same_series (asked k) q && same_leg m l) (up n) 0
posts q l (Closing t k n) = 0
posts q l (Moving a b k m n) = 0

abbrev pub closes : SeriesKey → Use → ℕ
closes q (Opening t b d) = 0
closes q (Posting t k m n) = 0
closes q (Closing t k n) = cond (same_series (asked k) q) (up n) 0
closes q (Moving a b k m n) = 0

-- nothing counts but an accepted use that was made
abbrev pub counting : (Use → ℕ) → Event → ℕ
counting f (Made u None) = f u
counting f (Made u (Some e)) = 0
counting f (Asked a) = 0
counting f (Tried u o qs) = 0

-- what was posted and what was closed out, in all
abbrev pub posted : List Event → SeriesKey → Leg → ℕ
posted es q l = sum_by (counting (posts q l)) es

abbrev pub closed : List Event → SeriesKey → ℕ
closed es q = sum_by (counting (closes q)) es

-- what all accounts hold of a series, by its place on the sheet, and a leg
abbrev pub held_by_all : State → ℕ → Leg → ℕ
held_by_all s j l = sum_by (λ a. held s a.slot j l) s.accounts

-- what was asked, in all
abbrev pub asked_in : Event → List Inquiry
asked_in (Made u o) = []
asked_in (Asked a) = a ∷ []
asked_in (Tried u o qs) = qs

abbrev pub inquiries : List Event → List Inquiry
inquiries es = flat_map asked_in es

-- The account owes nothing exactly where its value, which is that of its sums, is zero or a credit;
-- otherwise its requirement value covers its value, by less than a cent of each currency still owed.
pub record Owes (rates : List ℕ) (r : AccountReport) : Type 0 where
  pub value : r.value ≡ value_of r.sums rates
  pub law : Law r.sums rates r.owed r.requirement

-- What stands of events and of the book that they leave.
pub record Stands (es : List Event) (t : State) : Type 0 where
  -- of each series of the sheet and each leg, what all accounts hold and what was closed out is what was posted;
  pub counts : (q : SeriesKey) (j : ℕ) (l : Leg) → listed t q ≡ Some j → held_by_all t j l + closed es q ≡ posted es q l
  -- wherever a pool answered, its summed requirement value is at least its pooled value less its pooling allowance;
  pub pools : (m : Meaning) (o : Option Side) (p : PoolFigures) → Contains (inquiries es) (Pool m o (Ok p)) → (p.value -ℤ p.allowance) ≤ℤ pos p.summed
  -- by any charge every account owes by its own value; where a report answers, these are its figures; and every report that was answered owes so.
  pub accounts : (m : Meaning) (a : AccountRow) → Owes t.rates (own_report m t a)
  pub figures : (m : Meaning) (a : AccountRow) (r : AccountReport) → row_report m t a ≡ Ok r → r ≡ own_report m t a
  pub reports : (m : Meaning) (x : List ℕ) (r : AccountReport) → Contains (inquiries es) (Report m x (Ok r)) → Owes t.rates r

-- It stands whatever is done with the book, in whatever order and with whatever refusals.
abbrev pub BookLaw : State → Type 0
BookLaw s = (es : List Event) (t : State) → Run s es t → Stands es t
