-- The values of an array one after another.
use Rattle.std.proofs.Common.{◌≡◌, ℕ, zero, suc, ◌+◌, ◌<◌, ◌≤◌, List, [], ◌∷◌, ◌++◌, map, length, get_or, take, drop, ℤ, pos, sym, refl, ap, ◌∙◌, subst, arith}
use Rattle.std.proofs.lemmas.List.{length_push, take_more, drop_more, take_all, drop_all}
use Rattle.lines.specs.Columns.{Is, Isnt, Fits, column, laid}
use Rattle.lines.specs.Fields.{Front, Alien, number_field}
use Rattle.lines.proofs.Fronts.{number_front}
use Rattle.lines.specs.Records.{Entry, array, AllFit, Sound, body, Of}

-- values, a blank before each, and what follows
abbrev pub rows : List ℤ → List ℕ → List ℕ
rows [] t = t
rows (z ∷ zs) t = 32 ∷ (column 9 z ++ rows zs t)

laid-rows : (zs : List ℤ) → laid (map (column 9) zs) ≡ rows zs (10 ∷ [])
laid-rows [] = refl
laid-rows (z ∷ zs) = ap (λ (t : List ℕ). 32 ∷ (column 9 z ++ t)) (laid-rows zs)

rows_push : (zs : List ℤ) (z : ℤ) (t : List ℕ) → rows (zs ++ z ∷ []) t ≡ rows zs (32 ∷ (column 9 z ++ t))
rows_push [] z t = refl
rows_push (y ∷ ys) z t = ap (λ (u : List ℕ). 32 ∷ (column 9 y ++ u)) (rows_push ys z t)

fit_push : (zs : List ℤ) (z : ℤ) → AllFit zs → Fits 9 z → AllFit (zs ++ z ∷ [])
fit_push [] z f g = (g, tt)
fit_push (y ∷ ys) z f g = (f.0, fit_push ys z f.1 g)

fit_at : (zs : List ℤ) (k : ℕ) → AllFit zs → k < length zs → Fits 9 (get_or zs k (pos 0))
fit_at [] k f l = absurd (omega arith)
fit_at (z ∷ zs) zero f l = f.0
fit_at (z ∷ zs) (suc k) f l = fit_at zs k f.1 (omega arith)

-- s begins with the values zs, and t follows; and so it is with the first values of any longer list that s begins with
pub record Rows (s : List ℕ) (zs : List ℤ) (t : List ℕ) : Type 0 where
  pub fit : AllFit zs
  pub reads : s ≡ rows zs t
  pub only : (ys : List ℤ) (u : List ℕ) → AllFit ys → length zs ≤ length ys → s ≡ rows ys u → (take (length zs) ys ≡ zs) × (t ≡ rows (drop (length zs) ys) u)

pub rows_none : (s : List ℕ) → Rows s [] s
rows_none s = record { fit = tt; reads = refl; only = λ ys u f l e. (refl, e) }

-- values stand at the front of their own texts
rows_only : (zs : List ℤ) (t : List ℕ) → AllFit zs → (ys : List ℤ) (u : List ℕ) → AllFit ys → length zs ≤ length ys → rows zs t ≡ rows ys u → (take (length zs) ys ≡ zs) × (t ≡ rows (drop (length zs) ys) u)
rows_only [] t f ys u g l e = (refl, e)
rows_only (z ∷ zs) t f [] u g l e = absurd (omega arith)
rows_only (z ∷ zs) t f (y ∷ ys) u g l e =
    let p = (number_front 9 z (rows zs t) f.0).only y (rows ys u) g.0 e in
    let q = rows_only zs t f.1 ys u g.1 (omega arith) (sym p.1) in
    (cc (p.0, q.0), q.1)

rows_front : (zs : List ℤ) (t : List ℕ) → AllFit zs → Rows (rows zs t) zs t
rows_front zs t f = record { fit = f; reads = refl; only = rows_only zs t f }

module _ {s : List ℕ} {zs : List ℤ} {t : List ℕ} (p : Rows s zs t) where
  -- the value that comes next
  next : (ys : List ℤ) (u : List ℕ) → AllFit ys → length zs < length ys → s ≡ rows ys u
      → t ≡ 32 ∷ (column 9 (get_or ys (length zs) (pos 0)) ++ rows (drop (length zs + 1) ys) u)
  next ys u f l e = (p.only ys u f (omega arith) e).1 ∙ ap (λ (x : List ℤ). rows x u) (drop_more ys (length zs) (pos 0) l)

  pub rows_more : {z : ℤ} {v : List ℕ} → Front (number_field 9) t z v → Rows s (zs ++ z ∷ []) v
  rows_more {z} {v} q = record {
    fit = fit_push zs z p.fit q.fit;
    reads = p.reads ∙ ap (rows zs) q.reads ∙ sym (rows_push zs z v);
    only = λ ys u f l e.
        let m : length zs < length ys = omega (arith, length_push zs z) in
        let a : take (length zs) ys ≡ zs = (p.only ys u f (omega arith) e).0 in
        let b = q.only (get_or ys (length zs) (pos 0)) (rows (drop (length zs + 1) ys) u) (fit_at ys (length zs) f m) (next ys u f m e) in
        rw length_push (take_more ys (length zs) (pos 0) m ∙ cc, sym b.1);
  }

  -- a line of R has eight values
  module _ (e : Entry) (o : Of 82 e) (q : s ≡ body e) where
    held : (ys : List ℤ) × (e ≡ array ys)
    held = grind arith

    sound : Sound (array held.0)
    sound = subst Sound held.1 o.0

    line : s ≡ rows held.0 (10 ∷ [])
    line = q ∙ ap body held.1 ∙ laid-rows held.0

    all : length zs ≡ 8 → (e ≡ array zs) × (t ≡ 10 ∷ [])
    all l =
        let m : length zs ≡ length held.0 = omega (arith, sound.0) in
        let r = p.only held.0 (10 ∷ []) sound.1 (omega arith) line in
        (held.1 ∙ ap array (sym (take_all (length zs) held.0 (omega arith)) ∙ r.0), r.1 ∙ ap (λ (ys : List ℤ). rows ys (10 ∷ [])) (drop_all (length zs) held.0 (omega arith)))

  pub rows_alien : length zs < 8 → Alien (number_field 9) t → Isnt body (Of 82) s
  rows_alien l h e o q = h.none _ _ (fit_at (held e o q).0 (length zs) (sound e o q).1 (omega (arith, (sound e o q).0))) (next (held e o q).0 (10 ∷ []) (sound e o q).1 (omega (arith, (sound e o q).0)) (line e o q))

  pub rows_longer : length zs ≡ 8 → (t ≡ 10 ∷ [] → ⊥) → Isnt body (Of 82) s
  rows_longer l h e o q = h (all e o q l).1

  pub rows_are : length zs ≡ 8 → t ≡ 10 ∷ [] → Is body (Of 82) s (array zs)
  rows_are l z = record { fit = ((l, p.fit), refl); reads = p.reads ∙ ap (rows zs) z ∙ sym (laid-rows zs); only = λ e o q. (all e o q l).0 }

pub array_is : (zs : List ℤ) → Sound (array zs) → Is body (Of 82) (body (array zs)) (array zs)
array_is zs f = rw (laid-rows zs) (rows_are (rows_front zs (10 ∷ []) f.1) f.0 refl)
