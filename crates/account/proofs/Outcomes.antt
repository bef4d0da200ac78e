-- Figures that are filled in one after the other, up to the first refusal.
use Rattle.std.proofs.Common.{◌≡◌, ℕ, ◌+◌, ◌<◌, ◌≤◌, List, [], ◌∷◌, ◌++◌, length, get_or, take, drop, set, ℤ, Ok, Err, Result, sym, refl, ap, ◌∙◌, arith}
use Rattle.std.proofs.lemmas.List.{take_more_set, append_assoc, append-nil, take_all, at_drop_more, at_drop_all}
use Rattle.account.specs.Outcomes.{and_then, onto, each}

pub never : {X Y : Type 0} (e : Y) (x : X) → ◌≡◌ {A = Result X Y} (Err e) (Ok x) → ⊥
never e x h = let z : ◌≡◌ {A = ℕ} 0 1 = cc in omega arith

-- an answer after another comes from an answer
pub after_ok : {X Y E : Type 0} (r : Result X E) (f : X → Result Y E) (y : Y) → and_then r f ≡ Ok y → (x : X) × (r ≡ Ok x) × (f x ≡ Ok y)
after_ok (Ok x) f y e = (x, refl, e)
after_ok (Err d) f y e = absurd (never d y e)

onto_more : {E : Type 0} (out : List ℤ) (i : ℕ) (z : ℤ) → i < length out → (r : Result (List ℤ) E) → onto (take i out) (onto (z ∷ []) r) ≡ onto (take (i + 1) (set out i z)) r
onto_more out i z q (Ok zs) = ap Ok (sym (ap (λ l. l ++ zs) (take_more_set out i z q) ∙ append_assoc (take i out) (z ∷ []) zs))
onto_more out i z q (Err e) = refl

-- out filled up to place i, with what stays ahead: a refusal at i, one figure more, and the end
module _ {A E : Type 0} (g : A → Result ℤ E) (ks : List A) (i : ℕ) (out : List ℤ) (ahead : onto (take i out) (each g (drop i ks)) ≡ each g ks) where
  pub each_refused : (d : A) (e : E) → i < length ks → Err e ≡ g (get_or ks i d) → Err e ≡ each g ks
  each_refused d e p stop =
      let more = at_drop_more (each g) ks i d p in
      sym (rw (more, ← stop)) ∙ ahead

  pub each_further : (d : A) (z : ℤ) → i < length ks → i < length out → Ok z ≡ g (get_or ks i d) → onto (take (i + 1) (set out i z)) (each g (drop (i + 1) ks)) ≡ each g ks
  each_further d z p q go =
      let more = at_drop_more (each g) ks i d p in
      sym (rw (more, ← go) (onto_more out i z q (each g (drop (i + 1) ks)))) ∙ ahead

  pub each_filled : length ks ≤ i → length out ≤ i → Ok out ≡ each g ks
  each_filled p q = sym (ap (onto (take i out)) (at_drop_all (each g) ks i p) ∙ ap Ok (append-nil (take i out) ∙ take_all i out q)) ∙ ahead
