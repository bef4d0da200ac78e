-- Where a line ends, from where its line feed stands.
use Rattle.std.proofs.Common.{◌≡◌, ◌==◌, ℕ, zero, suc, ◌+◌, ◌-◌, ◌<◌, ◌≤◌, min, Bool, true, false, cond, List, [], ◌∷◌, ◌++◌, length, take, drop, refl, sym, ap, ◌∙◌, append_assoc, take-append-drop, take_all, arith}
use Rattle.std.proofs.lemmas.List.{take-take, take-append-le, length-take}
use Rattle.std.proofs.Math.Seq.{take-append-add}
use Rattle.stream.specs.Lines.{first_line}
use Rattle.std.specs.Io.BufRead.{take_through}
use Rattle.memchr.specs.Find.{Nowhere, Passes, is_byte}

not_true : (v : Bool) → ¬ (v ≡ true) → v ≡ false
not_true true h = absurd (h refl)
not_true false h = refl

module _ (b : ℕ) where
  -- a text without the byte is taken whole
  pub take_through-none : (s : List ℕ) → Nowhere (Passes (is_byte b) s) 0 (length s) → take_through b s ≡ s
  take_through-none [] h = refl
  take_through-none (x ∷ xs) h =
      ap (λ v. cond v (x ∷ []) (x ∷ take_through b xs)) (not_true (x == b) (h 0 (omega arith) (omega arith)))
      ∙ ap (λ l. x ∷ l) (take_through-none xs (λ k low high. h (suc k) (omega arith) (omega arith)))

  -- a text is taken up to the first place of the byte, whatever comes behind
  pub take_through-first : (s more : List ℕ) (k : ℕ) → k < length s → Nowhere (Passes (is_byte b) s) 0 k → Passes (is_byte b) s k
      → take_through b (s ++ more) ≡ take (suc k) s
  take_through-first [] more k within h at = absurd (omega arith)
  take_through-first (x ∷ xs) more zero within h at = ap (λ v. cond v (x ∷ []) (x ∷ take_through b (xs ++ more))) at
  take_through-first (x ∷ xs) more (suc k) within h at =
      ap (λ v. cond v (x ∷ []) (x ∷ take_through b (xs ++ more))) (not_true (x == b) (h 0 (omega arith) (omega arith)))
      ∙ ap (λ l. x ∷ l) (take_through-first xs more k (omega arith) (λ j low high. h (suc j) (omega arith) (omega arith)) at)

-- the front of what is held, at most 82 bytes of it, is the front of what is held with more behind it
front : (s more : List ℕ) (m : ℕ) → m ≤ 82 → (rest : List ℕ) × (take 82 (s ++ more) ≡ take m s ++ rest)
front s more m fits =
    let a = take m s in
    let b = drop m s ++ more in
    let joined : s ++ more ≡ a ++ b = ap (λ l. l ++ more) (sym (take-append-drop m s)) ∙ append_assoc a (drop m s) more in
    let short : length a + (82 - length a) ≡ 82 = omega (arith, length-take m s) in
    (take (82 - length a) b, ap (take 82) joined ∙ ap (λ n. take n (a ++ b)) (sym short) ∙ take-append-add a b (82 - length a))

module _ (s : List ℕ) (m : ℕ) (size : m ≡ min (length s) 82) where
  -- a line feed among the first 82 bytes ends the line
  pub first_line-fed : (more : List ℕ) (k : ℕ) → k < length (take m s) → Nowhere (Passes (is_byte 10) (take m s)) 0 k → Passes (is_byte 10) (take m s) k
      → first_line (s ++ more) ≡ take (k + 1) s
  first_line-fed more k within before at =
      let split = front s more m (omega arith) in
      let same : suc k ≡ k + 1 = omega arith in
      ap (take_through 10) split.1 ∙ take_through-first 10 (take m s) split.0 k within before at
      ∙ ap (λ n. take n (take m s)) same ∙ take-take (k + 1) m s (omega (arith, length-take m s))

  -- 82 bytes without one are cut off
  pub first_line-cut : (more : List ℕ) → 81 < length s → Nowhere (Passes (is_byte 10) (take m s)) 0 (length (take m s)) → first_line (s ++ more) ≡ take 82 s
  first_line-cut more long none =
      let whole : m ≡ 82 = omega arith in
      ap (take_through 10) (take-append-le 82 s more (omega arith)) ∙ ap (λ n. take_through 10 (take n s)) (sym whole)
      ∙ take_through-none 10 (take m s) none ∙ ap (λ n. take n s) whole

  -- fewer without one are all that there is, where no more comes
  pub first_line-last : length s ≤ 81 → Nowhere (Passes (is_byte 10) (take m s)) 0 (length (take m s)) → first_line s ≡ s
  first_line-last short none =
      let whole : take m s ≡ s = take_all m s (omega arith) in
      ap (take_through 10) (take_all 82 s (omega arith)) ∙ ap (take_through 10) (sym whole) ∙ take_through-none 10 (take m s) none ∙ whole
