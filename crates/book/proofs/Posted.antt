-- What the counts at the spots that were found say of a post, a close out and a move.
use Rattle.std.proofs.Common.{◌≡◌, ℕ, zero, suc, ◌+◌, ◌-◌, ◌≤◌, List, [], ◌∷◌, get_or, set, ℤ, true, false, is_some, Some, None, Option, refl, arith}
use borrow.Author.Differences.{up}
use Rattle.std.specs.Option.{option_or}
use Rattle.terms.specs.declared.faults.Fault.{Fault}
use Rattle.terms.specs.declared.keys.AskedKey.{AskedKey}
use Rattle.terms.specs.declared.words.Leg.{Leg}
use Rattle.terms.specs.declared.words.Leg.TheVariants.{Long, Short}
use Rattle.book.specs.declared.dealings.Spot.{Spot}
use Rattle.terms.specs.Faults.{unless}
use Rattle.terms.specs.Names.{named}
use Rattle.book.specs.Limits.{name_of, asked, same_account, fits}
use Rattle.book.specs.State.{State, cell}
use Rattle.book.specs.Found.{slot, there, absent, move_fault, Falls, at_spot, more, less}
use Rattle.book.specs.Uses.{Posting, Closing, Moving, done, count}

-- the rows 3 and 5 are passed, and a later row decides
pub passed : {a b r : Option Fault} → None ≡ a → r ≡ b → r ≡ option_or a b
passed e h = rw (← e) h

module _ (s : State) (t : List ℕ) (k : AskedKey) (n : ℤ) (p : Spot) (f : Falls s (name_of t) (asked k) (up n) p) where
  pub count_there : (l : Leg) → count s t k l ≡ at_spot s p l
  count_there l = rw (f.account, f.place) refl

  pub done_posting : (l : Leg) → done s (Posting t k l n) ≡ more s p l
  done_posting l = rw (f.account, f.place, f.amount) refl

  pub done_closing : done s (Closing t k n) ≡ less (less s p Long) p Short
  done_closing = rw (f.account, f.place, f.amount) refl

pub done_moving : (s : State) (a b : List ℕ) (k : AskedKey) (l : Leg) (n : ℤ) (p q : Spot) → Falls s (name_of a) (asked k) (up n) p → Falls s (name_of b) (asked k) (up n) q → done s (Moving a b k l n) ≡ more (less s p l) q l
done_moving s a b k l n p q f g =
    let series : q.series ≡ p.series = cc in
    rw (f.account, g.account, f.place, f.amount, g.amount, series) refl

-- a count that was taken from, or another, has space for what is added to it
set_keeps : (P : ℕ → Type 0) (xs : List ℕ) (i j v : ℕ) → P v → P (get_or xs j 0) → P (get_or (set xs i v) j 0)
set_keeps P [] i j v h g = g
set_keeps P (x ∷ xs) zero zero v h g = h
set_keeps P (x ∷ xs) zero (suc j) v h g = g
set_keeps P (x ∷ xs) (suc i) zero v h g = g
set_keeps P (x ∷ xs) (suc i) (suc j) v h g = set_keeps P xs i j v h g

pub space_left : (s u : State) (p q : Spot) (l : Leg) → u ≡ less s p l → q.contracts ≡ p.contracts → p.contracts ≤ at_spot s p l → at_spot s p l ≤ 100000 → at_spot s q l + q.contracts ≤ 100000
    → at_spot u q l + q.contracts ≤ 100000
space_left s u p q l f e h m g = rw f (set_keeps (λ n. n + q.contracts ≤ 100000) s.counts (cell p.slot p.series l) (cell q.slot q.series l) (at_spot s p l - p.contracts) (omega arith) g)

-- a move whose first account is there meets what its second account meets
pub second_meets : (s : State) (a b : List ℕ) (k : AskedKey) (n : ℤ) (e : Fault) → same_account a b ≡ false → fits a k n ≡ true → is_some (named b) ≡ true → is_some (slot s (name_of a)) ≡ true
    → Some e ≡ unless (there s (name_of b) (asked k)) (absent s (name_of b) (asked k)) None → Some e ≡ move_fault s a b k n
second_meets s a b k n e apart inside spelled source h = rw (apart, inside, spelled, source) h
