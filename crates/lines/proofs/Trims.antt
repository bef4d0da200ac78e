-- A name at the left of its field.
use Rattle.std.proofs.Common.{◌≡◌, ℕ, ◌-◌, ◌<◌, ◌≤◌, ◌≢◌, List, length, get_or, take, replicate, None, Some, refl, sym, ap, ◌∙◌, arith}
use Rattle.std.proofs.lemmas.List.{length-append, length-replicate, take_at}
use Rattle.terms.specs.declared.names.Name.{Name}
use Rattle.terms.specs.Names.{named}
use Rattle.lines.specs.Columns.{left, Is, Isnt, Spelled}
use Rattle.lines.proofs.Blanks.{blanks_behind, take-blanks, append-blanks}

some : (t : List ℕ) → Spelled t → 0 < length t
some t h = grind arith

short : (t : List ℕ) → Spelled t → length t ≤ 20
short t h = grind arith

no_blank : (t : List ℕ) → Spelled t → get_or t (length t - 1) 0 ≢ 32
no_blank t h = λ e. grind arith

abbrev text_of : List ℕ → List ℕ
text_of f = take (length f - blanks_behind f) f

at_left : (f : List ℕ) → length f ≡ 20 → length (text_of f) ≤ 20 → f ≡ left 20 (text_of f)
at_left f l m = let n : 20 - length (text_of f) ≡ blanks_behind f = omega (arith, ap length (take-blanks f), length-append (text_of f) (replicate (blanks_behind f) 32), length-replicate {A = ℕ} (blanks_behind f) 32) in rw n (take-blanks f)

pub in_left : (f t : List ℕ) → Spelled t → f ≡ left 20 t → text_of f ≡ t
in_left f t h e =
    let n = 20 - length t in
    let l : length f - blanks_behind f ≡ length t =
    omega (arith, ap length e, length-append t (replicate n 32), length-replicate {A = ℕ} n 32, ap blanks_behind e ∙ append-blanks n t (some t h) (no_blank t h)) in
    ap (λ (m : ℕ). take m f) l ∙ ap (take (length t)) e ∙ take_at t (replicate n 32) (length t) refl

pub name_is : (f : List ℕ) (n : Name) → length f ≡ 20 → named (text_of f) ≡ Some n → Is (left 20) Spelled f (text_of f)
name_is f n l e = let h : Spelled (text_of f) = grind arith in record { fit = h; reads = at_left f l (short (text_of f) h); only = λ t g q. sym (in_left f t g q) }

pub name_isnt : (f : List ℕ) → named (text_of f) ≡ None → Isnt (left 20) Spelled f
name_isnt f e t g q = let h : Spelled (text_of f) = rw (in_left f t g q) g in grind arith

pub wide : (t : List ℕ) → Spelled t → length (left 20 t) ≡ 20
wide t h = omega (arith, length-append t (replicate (20 - length t) 32), length-replicate {A = ℕ} (20 - length t) 32, short t h)
