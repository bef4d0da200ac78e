-- The accounts of a pool from one opening number on, and their requirement values added up.
use Rattle.std.proofs.Common.{◌≡◌, ℕ, suc, ◌+◌, ◌-◌, ◌<◌, ◌≤◌, Bool, true, false, cond, List, [], ◌∷◌, ◌++◌, filter, filter_map, length, option_to_list, Some, None, Option, Ok, Err, Result, sym, refl, ap, ◌∙◌, arith}
use Rattle.std.specs.List.{range_with_len, cons_option}
use Rattle.terms.specs.declared.faults.Fault.{Fault}
use Rattle.terms.specs.declared.words.Side.{Side}
use Rattle.account.specs.declared.rule.AccountReport.{AccountReport}
use Rattle.account.specs.Outcomes.{and_then}
use Rattle.account.proofs.Outcomes.{never}
use Rattle.book.specs.declared.rows.AccountRow.{AccountRow}
use Rattle.book.specs.Pool.{pools, pooled, all_of, summed}
use Rattle.book.specs.Reads.{numbered}
use Rattle.book.specs.State.{State}

-- those from the k-th on
abbrev pub from : State → Option Side → ℕ → List AccountRow
from s o k = filter (pools o) (filter_map (λ j. numbered j s.accounts) (range_with_len k (length s.accounts - k)))

module _ (p : AccountRow → Bool) where
  picked : (b : Bool) (a : AccountRow) (xs : List AccountRow) → cond b (a ∷ xs) xs ≡ cond b (a ∷ []) [] ++ xs
  picked true a xs = refl
  picked false a xs = refl

  filter_more : (o : Option AccountRow) (xs : List AccountRow) → filter p (cons_option o xs) ≡ filter p (option_to_list o) ++ filter p xs
  filter_more None xs = refl
  filter_more (Some a) xs = picked (p a) a (filter p xs)

module _ (s : State) (o : Option Side) (k : ℕ) (r : Option AccountRow) (taken : option_to_list r ≡ filter (pools o) (option_to_list (numbered k s.accounts))) (below : k < length s.accounts) where
  pub from_next : from s o k ≡ option_to_list r ++ from s o (k + 1)
  from_next =
      let one : length s.accounts - k ≡ suc (length s.accounts - (k + 1)) = omega arith in
      ap (λ n. filter (pools o) (filter_map (λ j. numbered j s.accounts) (range_with_len k n))) one
      ∙ filter_more (pools o) (numbered k s.accounts) (filter_map (λ j. numbered j s.accounts) (range_with_len (k + 1) (length s.accounts - (k + 1))))
      ∙ ap (λ xs. xs ++ from s o (k + 1)) (sym taken)

pub from_end : (s : State) (o : Option Side) (k : ℕ) → length s.accounts ≤ k → from s o k ≡ []
from_end s o k h = let none : length s.accounts - k ≡ 0 = omega arith in ap (λ n. filter (pools o) (filter_map (λ j. numbered j s.accounts) (range_with_len k n))) none

pub from_first : (s : State) (o : Option Side) → from s o 0 ≡ pooled s o
from_first s o = let all : length s.accounts - 0 ≡ length s.accounts = omega arith in ap (λ n. filter (pools o) (filter_map (λ j. numbered j s.accounts) (range_with_len 0 n))) all

-- requirement values added to what stands already
abbrev pub more_summed : ℕ → Result (List AccountReport) Fault → Result ℕ Fault
more_summed n r = and_then r (λ reports. Ok (n + summed reports))

module _ (g : AccountRow → Result AccountReport Fault) (n : ℕ) where
  next : (y : ℕ) (x : Result AccountReport Fault) (rest : Result (List AccountReport) Fault) → Ok y ≡ and_then x (λ r. Ok r.requirement) → more_summed n (and_then x (λ r. and_then rest (λ rs. Ok (r ∷ rs)))) ≡ more_summed (n + y) rest
  next y (Ok r) (Ok rs) h = let e : y ≡ r.requirement = cc in ap Ok (omega (arith, e))
  next y (Ok r) (Err f) h = refl
  next y (Err f) rest h = absurd (never f y (sym h))

  stop : (e : Fault) (x : Result AccountReport Fault) (rest : Result (List AccountReport) Fault) → ◌≡◌ {A = Result ℕ Fault} (Err e) (and_then x (λ r. Ok r.requirement)) → more_summed n (and_then x (λ r. and_then rest (λ rs. Ok (r ∷ rs)))) ≡ Err e
  stop e (Ok r) rest h = absurd (never e r.requirement h)
  stop e (Err f) rest h = sym h

  pub summed_go : (s : State) (o : Option Side) (k : ℕ) (a : AccountRow) (y : ℕ) → from s o k ≡ a ∷ from s o (k + 1) → Ok y ≡ and_then (g a) (λ r. Ok r.requirement) → more_summed n (all_of g (from s o k)) ≡ more_summed (n + y) (all_of g (from s o (k + 1)))
  summed_go s o k a y e h = ap (λ rows. more_summed n (all_of g rows)) e ∙ next y (g a) (all_of g (from s o (k + 1))) h

  pub summed_stop : (s : State) (o : Option Side) (k : ℕ) (a : AccountRow) (e : Fault) → from s o k ≡ a ∷ from s o (k + 1) → ◌≡◌ {A = Result ℕ Fault} (Err e) (and_then (g a) (λ r. Ok r.requirement)) → more_summed n (all_of g (from s o k)) ≡ Err e
  summed_stop s o k a e f h = ap (λ rows. more_summed n (all_of g rows)) f ∙ stop e (g a) (all_of g (from s o (k + 1))) h

  pub summed_end : (s : State) (o : Option Side) (k : ℕ) → length s.accounts ≤ k → more_summed n (all_of g (from s o k)) ≡ Ok n
  summed_end s o k h = ap (λ rows. more_summed n (all_of g rows)) (from_end s o k h) ∙ ap Ok (omega arith)

none_yet : (r : Result (List AccountReport) Fault) → more_summed 0 r ≡ and_then r (λ reports. Ok (summed reports))
none_yet (Ok rs) = ap Ok (omega arith)
none_yet (Err e) = refl

pub summed_first : (g : AccountRow → Result AccountReport Fault) (s : State) (o : Option Side) → more_summed 0 (all_of g (from s o 0)) ≡ and_then (all_of g (pooled s o)) (λ reports. Ok (summed reports))
summed_first g s o = none_yet (all_of g (from s o 0)) ∙ ap (λ rows. and_then (all_of g rows) (λ reports. Ok (summed reports))) (from_first s o)
