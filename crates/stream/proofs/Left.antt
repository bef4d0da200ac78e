-- What a reader has left after a read, which moves bytes from the input to what is held, and after a line was handed on.
use Rattle.std.proofs.Common.{◌≡◌, ◌≢◌, ℕ, ◌+◌, ◌-◌, ◌<◌, ◌≤◌, List, [], ◌++◌, Option, None, Some, IfSome, length, take, drop, slice_range, sym, ap, ◌∙◌, append_assoc, zero-add, arith}
use Rattle.std.proofs.lemmas.List.{length-take-le, take-take, take-append-le, drop-append-le, drop-take, drop-drop, length-drop}
use Rattle.std.proofs.lemmas.List.Edits.{take-paste}
use Rattle.std.proofs.Math.Seq.{take-append-add}
use Rattle.std.specs.List.{copy_within}
use Rattle.std.specs.Io.KnownBytes.{Consumes, Keeps, prepend_known}
use Rattle.stream.specs.Lines.{first_line}
use borrow.Rule.Slice.PartMut.{put_mid, post_of}

-- what moved from the input to what is held is still there
passed : (a b : Option (List ℕ)) (held got : List ℕ) → Consumes a b got → Keeps (prepend_known held a) (prepend_known (held ++ got) b)
passed None b held got h = tt
passed (Some x) None held got h = h
passed (Some x) (Some y) held got h = append_assoc held got y ∙ ap (λ l. held ++ l) (sym h)

module _ (bytes got : List ℕ) (from to n : ℕ) (ordered : from ≤ to) (within : to ≤ length bytes) (fits : n ≤ length got) where
  -- what is held moves to the front
  moved : take (to - from) (copy_within bytes from to 0) ≡ slice_range bytes from to
  moved = ap (λ k. take k (copy_within bytes from to 0)) (sym (zero-add (to - from)))
      ∙ take-paste bytes 0 (drop from bytes) (to - from) (omega arith) (omega (arith, length-drop from bytes))

  -- and what was read stands behind it
  behind : (k : ℕ) → slice_range (put_mid (to - from) k (copy_within bytes from to 0) got) 0 (to - from + n) ≡ slice_range bytes from to ++ take n got
  behind k =
      let held = to - from in
      let front = take held (copy_within bytes from to 0) in
      let rest = post_of held k (copy_within bytes from to 0) in
      let long : length front ≡ held = ap length moved ∙ length-take-le held (drop from bytes) (omega (arith, length-drop from bytes)) in
      let count : held + n - 0 ≡ length front + n = omega arith in
      ap (λ j. take j (front ++ (got ++ rest))) count ∙ take-append-add front (got ++ rest) n
      ∙ ap (λ l. front ++ l) (take-append-le n got rest fits) ∙ ap (λ l. l ++ take n got) moved

  pub refilled : (k : ℕ) (a b : Option (List ℕ)) → Consumes a b (take n got)
      → Keeps (prepend_known (slice_range bytes from to) a) (prepend_known (slice_range (put_mid (to - from) k (copy_within bytes from to 0) got) 0 (to - from + n)) b)
  refilled k a b h = rw (behind k) (passed a b (slice_range bytes from to) (take n got) h)

-- what is held without its first n bytes
pub held_rest : (bytes : List ℕ) (from to n : ℕ) → from + n ≤ to → slice_range bytes (from + n) to ≡ drop n (slice_range bytes from to)
held_rest bytes from to n within =
    let m = to - (from + n) in
    let count : n + m ≡ to - from = omega arith in
    ap (take m) (sym (drop-drop n from bytes)) ∙ sym (drop-take n m (drop from bytes)) ∙ ap (λ k. drop n (take k (drop from bytes))) count

-- n bytes of what is held are handed on: there is a line
pub handed : (a : Option (List ℕ)) (bytes : List ℕ) (from to n : ℕ) → 0 < n → n ≤ length (slice_range bytes from to) → from + n ≤ to → IfSome a (λ xs. first_line xs ≡ take n (slice_range bytes from to))
    → IfSome a (λ xs. (xs ≢ []) × (slice_range bytes from (from + n) ≡ first_line xs))
handed None bytes from to n some long within first = tt
handed (Some x) bytes from to n some long within first =
    let count : from + n - from ≡ n = omega arith in
    let size : length (first_line x) ≡ n = ap length first ∙ length-take-le n (slice_range bytes from to) long in (
      λ none. absurd (omega (arith, size, ap (λ l. length (first_line l)) none)),
      ap (λ k. take k (drop from bytes)) count ∙ sym (take-take n (to - from) (drop from bytes) (omega arith)) ∙ sym first,
    )

-- a first line of n bytes leaves the rest
pub left : (a b : Option (List ℕ)) (held rest : List ℕ) (n : ℕ) → n ≤ length held → rest ≡ drop n held → Keeps a (prepend_known held b)
    → IfSome a (λ xs. first_line xs ≡ take n held) → IfSome a (λ xs. prepend_known rest b ≡ Some (drop (length (first_line xs)) xs))
left None b held rest n fits cut kept first = tt
left (Some x) None held rest n fits cut kept first = absurd kept
left (Some x) (Some z) held rest n fits cut kept first =
    let size : length (first_line x) ≡ n = ap length first ∙ length-take-le n held fits in
    ap Some (ap (λ l. l ++ z) cut ∙ sym (drop-append-le n held z fits) ∙ ap (drop n) kept ∙ ap (λ k. drop k x) (sym size))
