-- The blanks before a text, and those behind it.
use Rattle.std.proofs.Common.{◌≡◌, ℕ, zero, suc, ◌-◌, ◌<◌, ◌≢◌, eqb, List, [], ◌∷◌, ◌++◌, length, get_or, take, drop, replicate, reverse, refl, sym, ap, ◌∙◌, one-add, add-one, arith, ⊎_elim}
use Rattle.std.specs.List.{prefix_len, suffix_len}
use Rattle.std.proofs.lemmas.Bool.{cases_eq, eq-eqb, ne_eqb}
use Rattle.std.proofs.lemmas.List.{length-reverse, length-drop, get_or-reverse, take_at, replicate_more, reverse-append, reverse-reverse}

abbrev pub blanks : List ℕ → ℕ
blanks f = prefix_len (λ b. eqb b 32) f

-- a field is the blanks before its text, and its text
pub blanks-drop : (f : List ℕ) → f ≡ replicate (blanks f) 32 ++ drop (blanks f) f
blanks-drop [] = refl
blanks-drop (x ∷ xs) = ⊎_elim (λ e. rw (eq-eqb x 32 e, one-add, e) (ap (λ (t : List ℕ). 32 ∷ t) (blanks-drop xs))) (λ n. rw (ne_eqb x 32 n) refl) (cases_eq x 32)

pub blanks-append : (n : ℕ) (t : List ℕ) → 0 < length t → get_or t 0 0 ≢ 32 → blanks (replicate n 32 ++ t) ≡ n
blanks-append zero [] l h = absurd (omega arith)
blanks-append zero (c ∷ t) l h = rw (ne_eqb c 32 h) refl
blanks-append (suc n) t l h = rw one-add (ap suc (blanks-append n t l h))

abbrev pub blanks_behind : List ℕ → ℕ
blanks_behind f = suffix_len (λ b. eqb b 32) f

reverse-replicate : (n : ℕ) → reverse {A = ℕ} (replicate n 32) ≡ replicate n 32
reverse-replicate zero = refl
reverse-replicate (suc n) = reverse-append (32 ∷ []) (replicate n 32) ∙ ap (λ (t : List ℕ). t ++ 32 ∷ []) (reverse-replicate n) ∙ replicate_more n 32 ∙ rw add-one

-- a field is its text, and the blanks behind it
pub take-blanks : (f : List ℕ) → f ≡ take (length f - blanks_behind f) f ++ replicate (blanks_behind f) 32
take-blanks f =
    let n = blanks_behind f in
    let t = reverse (drop n (reverse f)) in
    let e : f ≡ t ++ replicate n 32 =
    sym (reverse-reverse f) ∙ ap reverse (blanks-drop (reverse f)) ∙ reverse-append (replicate n 32) (drop n (reverse f)) ∙ ap (λ (x : List ℕ). t ++ x) (reverse-replicate n) in
    let l : length t ≡ length f - n = length-reverse (drop n (reverse f)) ∙ length-drop n (reverse f) ∙ ap (λ (m : ℕ). m - n) (length-reverse f) in
    e ∙ ap (λ (x : List ℕ). x ++ replicate n 32) (sym (ap (take (length f - n)) e ∙ take_at t (replicate n 32) (length f - n) l))

pub append-blanks : (n : ℕ) (t : List ℕ) → 0 < length t → get_or t (length t - 1) 0 ≢ 32 → blanks_behind (t ++ replicate n 32) ≡ n
append-blanks n t l h =
    ap blanks (reverse-append t (replicate n 32) ∙ ap (λ (x : List ℕ). x ++ reverse t) (reverse-replicate n))
    ∙ blanks-append n (reverse t) (omega (arith, length-reverse t)) (λ e. h (ap (λ (i : ℕ). get_or t i 0) (omega arith) ∙ sym (get_or-reverse t 0 0 l) ∙ e))
