-- A line laid out from its end: its feed first, its letter last.
use Rattle.std.proofs.Common.{◌≡◌, ℕ, ◌+◌, ◌<◌, List, ◌∷◌, [], length, drop, set, ap, ◌∙◌, arith}
use Rattle.std.proofs.lemmas.List.{drop_all, drop-set}

pub feed_put : (out : List ℕ) (at : ℕ) → length out ≡ at + 1 → drop at (set out at 10) ≡ 10 ∷ []
feed_put out at e = drop-set out at 10 (omega arith) ∙ ap (λ (x : List ℕ). 10 ∷ x) (drop_all (at + 1) out (omega arith))

pub letter_put : (out rest : List ℕ) (letter : ℕ) → 0 < length out → drop 1 out ≡ rest → set out 0 letter ≡ letter ∷ rest
letter_put out rest letter some h = drop-set out 0 letter some ∙ ap (λ (x : List ℕ). letter ∷ x) h
