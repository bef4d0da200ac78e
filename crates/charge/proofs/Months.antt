-- One month's series among the others: a series of another month weighs nothing.
use Rattle.std.proofs.Common.{◌≡◌, ℕ, ◌<◌, ◌≤◌, true, List, [], ◌∷◌, zero, suc, map, length, get_or, pos, ℤ, ◌==◌, nat_abs, sym, ap, ◌∙◌, arith, lit≤}
use Rattle.std.proofs.lemmas.Bool.{cond_both}
use Rattle.std.proofs.lemmas.List.{get_or-map, length-map}
use Rattle.sheet.specs.Limits.{Within, delta_of}
use Rattle.sheet.specs.declared.rows.Series.{Series}
use Rattle.charge.specs.Positions.{fits}
use Rattle.charge.specs.Spread.{month_delta_of}
use Rattle.charge.proofs.Dots.{Summed, Turn, turn, fits_parts}

month_within : (m : ℕ) (rows : List Series) → Within 100 (map delta_of rows) → Within 100 (map (month_delta_of m) rows)
month_within m [] w i = omega arith
month_within m (r ∷ rows) w zero = cond_both (r.key.month == m) r.delta (pos 0) (λ z. nat_abs z ≤ 100) (λ e. w 0) (λ e. omega arith)
month_within m (r ∷ rows) w (suc i) = month_within m rows (λ k. w (suc k)) i

-- the turn at the next count and series
pub month_turn : (m : ℕ) (rows : List Series) (p : List ℤ) (i : ℕ) (sum n : ℤ) (r : Series) → Summed 100 (map (month_delta_of m) rows) p i sum → fits (length rows) p ≡ true → length rows ≤ 128 → Within 100 (map delta_of rows) →
    (i < length p) × (i < length rows) × ((d : ℤ) → n ≡ get_or p i d) × ((d : Series) → r ≡ get_or rows i d) → Turn 100 (map (month_delta_of m) rows) p i sum n (month_delta_of m r)
month_turn m rows p i sum n r s fit short w at =
    let ws = map (month_delta_of m) rows in
    let long : length ws ≡ length rows = simp length-map in
    let parts = fits_parts (length rows) p fit in
    let e : month_delta_of m r ≡ get_or ws i (pos 0) = ap (month_delta_of m) (at.3 r) ∙ sym (get_or-map (month_delta_of m) rows i r (pos 0) at.1) in
    turn 100 ws p i sum n _ s (lit≤ tt) (omega arith) (omega arith) parts.1 (month_within m rows w) (omega arith) (at.2 (pos 0)) e
