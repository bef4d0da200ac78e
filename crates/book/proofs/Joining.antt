-- The pieces of a pool's accounts joined in a class, account after account.
use Rattle.std.proofs.Common.{◌≡◌, ℕ, zero, suc, ◌+◌, ◌-◌, ◌*◌, ◌≤◌, true, List, ◌∷◌, length, take, drop, replicate, ℤ, pos, ◌+ℤ◌, Option, Ok, Err, sym, ap, ◌∙◌, subst, arith}
use lib.IntN.{+ℤ_idr}
use Rattle.std.proofs.lemmas.List.{take-replicate}
use Rattle.terms.specs.declared.codes.Code.{Code}
use Rattle.terms.specs.declared.faults.Fault.{Fault}
use Rattle.terms.specs.declared.words.Basis.{Basis}
use Rattle.terms.specs.declared.words.Side.{Side}
use Rattle.sheet.specs.declared.rows.ClassRow.{ClassRow}
use Rattle.sheet.specs.declared.rows.Series.{Series}
use Rattle.sheet.specs.Given.{Terms}
use Rattle.charge.specs.Positions.{fits}
use Rattle.sheet.specs.Limits.{Within}
use Rattle.sheet.specs.Rows.{of_class, beside, Spanned}
use Rattle.charge.specs.Meanings.{Meaning}
use Rattle.account.specs.Outcomes.{and_then, plus}
use Rattle.account.specs.Pieces.{Held, margined_counts, pieces}
use Rattle.account.specs.Pools.{empty_position, joined_from, joins, pool_of, class_pool}
use Rattle.account.proofs.Charges.{plus_none}
use Rattle.account.proofs.Joins.{all_stop, all_go, all_joined, joined_pieces, length_joined, joined_within}
use Rattle.account.proofs.Marks.{length_margined, counts_within, counts_small}
use Rattle.account.proofs.Parts.{each_of_part, within_part, small_part, small_fits_class}
use Rattle.book.specs.declared.rows.AccountRow.{AccountRow}
use Rattle.book.specs.Pool.{counts_in, Counted, pieces_in, pooled}
use Rattle.book.specs.State.{State}
use Rattle.book.proofs.Taken.{from, from_end, from_first}

-- of an account's counts, those of a class
module _ (c : Code) (rows : List Series) (a e : ℕ) (b : Basis) (ls ss : List ℕ) (span : Spanned c rows a e) (longs : length ls ≡ length rows) (shorts : length ss ≡ length rows) (held : Held ls ss) where
  abbrev all : List ℤ
  all = margined_counts b ls ss

  long : length all ≡ length rows
  long = length_margined b ls ss (longs ∙ sym shorts) ∙ longs

  pub counted : Counted c rows (beside c rows (margined_counts b ls ss))
  counted = (
    ap length (sym (span.counts all long)) ∙ each_of_part all rows (of_class c rows) a e span.ordered span.within long span.series,
    subst (Within 100000) (span.counts all long) (within_part 100000 all a e (counts_within b ls ss held)),
  )

  pub class_counts_fit : (ns : List ℤ) (own : List Series) → ns ≡ margined_counts b ls ss → own ≡ of_class c rows → fits (length own) (take (e - a) (drop a ns)) ≡ true
  class_counts_fit ns own is same =
      rw (is, same) (small_fits_class (length (of_class c rows)) (take (e - a) (drop a all))
      (each_of_part all rows (of_class c rows) a e span.ordered span.within long span.series)
      (small_part all a e (counts_small b ls ss held)))

-- what is joined of k accounts, and of one more
pub position_more : (b : Basis) (k : ℕ) (p q next : List ℤ) → length p ≡ length q → Within (k * 100000) p → Within 100000 q → next ≡ joined_from p (pieces b q) → (length next ≡ length p) × Within ((k + 1) * 100000) next
position_more b k p q next e h w made =
    let whole = made ∙ joined_pieces b p q e in
    rw whole (length_joined p q e, λ i. omega (arith, joined_within (k * 100000) 100000 p q h w i))

module _ (m : Meaning) (t : Terms) (s : State) (row : ClassRow) (o : Option Side) (k : ℕ) (a : ℤ) (p : List ℤ) where
  abbrev left : ℕ → List (List ℤ)
  left i = pieces_in s row (from s o i)

  module _ (x : AccountRow) (here : from s o k ≡ x ∷ from s o (k + 1)) where
    abbrev own : List (List ℤ)
    own = pieces x.basis (counts_in s row x)

    pub pool_stop : (e : Fault) → Err e ≡ joins m t p own → plus a (joins m t p (left k)) ≡ Err e
    pool_stop e h = ap (λ rows. plus a (joins m t p (pieces_in s row rows))) here ∙ all_stop m t a p own (left (k + 1)) e h

    module _ (next : List ℤ) (made : next ≡ joined_from p own) where
      pub pool_go : (y : ℤ) → Ok y ≡ joins m t p own → plus a (joins m t p (left k)) ≡ plus (a +ℤ y) (joins m t next (left (k + 1)))
      pool_go y h = ap (λ rows. plus a (joins m t p (pieces_in s row rows))) here ∙ all_go m t a p own (left (k + 1)) next made y h

      pub pool_joined : joined_from p (left k) ≡ joined_from next (left (k + 1))
      pool_joined = ap (λ rows. joined_from p (pieces_in s row rows)) here ∙ all_joined m t a p own (left (k + 1)) next made

  pub pool_end : length s.accounts ≤ k → (plus a (joins m t p (left k)) ≡ Ok a) × (joined_from p (left k) ≡ p)
  pool_end h = let none = from_end s o k h in (ap (λ rows. plus a (joins m t p (pieces_in s row rows))) none ∙ ap Ok (+ℤ_idr a), ap (λ rows. joined_from p (pieces_in s row rows)) none)

-- before the first account nothing is joined
pub nothing_joined : (own rows : List Series) → own ≡ rows → length own ≤ 128 → take (length own) (replicate 128 (pos 0)) ≡ replicate (length rows) (pos 0)
nothing_joined own rows same h = take-replicate (length own) 128 (pos 0) h ∙ ap (λ xs. replicate (length xs) (pos 0)) same

pub nothing_within : (n : ℕ) → Within 0 (replicate n (pos 0))
nothing_within zero i = omega arith
nothing_within (suc n) zero = omega arith
nothing_within (suc n) (suc i) = nothing_within n i

pub pool_first : (m : Meaning) (t : Terms) (s : State) (row : ClassRow) (o : Option Side) (p : List ℤ) → p ≡ empty_position t
    → (plus (pos 0) (joins m t p (pieces_in s row (from s o 0))) ≡ joins m t (empty_position t) (pieces_in s row (pooled s o))) × (joined_from p (pieces_in s row (from s o 0)) ≡ joined_from (empty_position t) (pieces_in s row (pooled s o)))
pool_first m t s row o p none = (
  plus_none (joins m t p (pieces_in s row (from s o 0))) ∙ ap (λ q. joins m t q (pieces_in s row (from s o 0))) none ∙ ap (λ rows. joins m t (empty_position t) (pieces_in s row rows)) (from_first s o),
  ap (λ q. joined_from q (pieces_in s row (from s o 0))) none ∙ ap (λ rows. joined_from (empty_position t) (pieces_in s row rows)) (from_first s o),
)

-- the pool of a class by what was joined
pub pool_stopped : (m : Meaning) (t : Terms) (qs : List (List ℤ)) (e : Fault) → Err e ≡ joins m t (empty_position t) qs → Err e ≡ class_pool m t qs
pool_stopped m t qs e h = ap (λ r. and_then r (pool_of m t (joined_from (empty_position t) qs))) h

pub pool_made : (m : Meaning) (t : Terms) (qs : List (List ℤ)) (a : ℤ) (p : List ℤ) → Ok a ≡ joins m t (empty_position t) qs → p ≡ joined_from (empty_position t) qs → pool_of m t p a ≡ class_pool m t qs
pool_made m t qs a p h made = ap (λ q. pool_of m t q a) made ∙ ap (λ r. and_then r (pool_of m t (joined_from (empty_position t) qs))) h
