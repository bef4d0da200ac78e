-- The part of a list from one place to another: its length and its numbers.
use Rattle.std.proofs.Common.{◌≡◌, ℕ, suc, ◌+◌, ◌-◌, ◌<◌, ◌≤◌, true, List, [], ◌∷◌, length, take, drop, ℤ, refl, sym, ap, ◌∙◌, ⊎_elim, arith, nat_abs}
use Rattle.std.proofs.lemmas.List.{get_or-take, get_or-drop, get_or_past, length-take, length-drop}
use Rattle.std.proofs.lemmas.Bool.{cases_lt, and_from, eq-eqb, le-leb}
use Rattle.sheet.specs.Limits.{Within}
use Rattle.charge.specs.Positions.{counts_fit, fits}
use Rattle.account.specs.Pieces.{Small}

length_part : {X : Type 0} (xs : List X) (a e : ℕ) → a ≤ e → e ≤ length xs → length (take (e - a) (drop a xs)) ≡ e - a
length_part xs a e p q = simp (length-take, length-drop) (omega arith)

-- beside each element of a part there is one of the same part of a list that is as long
pub each_of_part : {X Y : Type 0} (xs : List X) (ys : List Y) (part : List Y) (a e : ℕ) → a ≤ e → e ≤ length ys → length xs ≡ length ys → take (e - a) (drop a ys) ≡ part → length (take (e - a) (drop a xs)) ≡ length part
each_of_part xs ys part a e p q long is = length_part xs a e p (omega arith) ∙ sym (length_part ys a e p q) ∙ ap length is

pub within_part : (n : ℕ) (xs : List ℤ) (a e : ℕ) → Within n xs → Within n (take (e - a) (drop a xs))
within_part n xs a e h k = ⊎_elim
    (λ (lt : k < e - a). rw (get_or-take, get_or-drop) (h (a + k)))
    (λ (le : e - a ≤ k). let p : length (take (e - a) (drop a xs)) ≤ k = simp length-take (omega arith) in rw get_or_past (omega arith))
    (cases_lt k (e - a))

pub small_part : (xs : List ℤ) (a e : ℕ) → Small xs → Small (take (e - a) (drop a xs))
small_part xs a e h = within_part 3200000 xs a e h

-- small counts, as many as there are series, are a position
pub small_fits_class : (n : ℕ) (p : List ℤ) → length p ≡ n → Small p → fits n p ≡ true
small_fits_class n p e h = and_from _ _ (eq-eqb (length p) n e) (small p h)
  where
    small : (q : List ℤ) → Small q → counts_fit q ≡ true
    small [] w = refl
    small (x ∷ q) w = and_from _ _ (le-leb (nat_abs x) 3200000 (w 0)) (small q (λ k. w (suc k)))
