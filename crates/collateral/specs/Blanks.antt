-- The places of a list of statements that no account has yet, all alike: the list tells what the whole array holds.
use Rattle.std.specs.Prelude.{◌≡◌, ◌≤◌, ◌-◌, ◌++◌, ℕ, List, ◌<◌, length, take, drop, replicate, slice_index}
use Rattle.std.proofs.Common.{sym, ap, ◌∙◌, ⊎_elim, arith, length-take-le, take-append-drop}
use Rattle.std.proofs.lemmas.Bool.{cases_lt}
use Rattle.std.proofs.lemmas.List.{length-replicate, get_or-replicate, get_or_past}
use Rattle.terms.specs.declared.words.Side.TheVariants.{Client}
use Rattle.collateral.specs.declared.statements.Statement.{Statement}

pub nothing_owed : (k : ℕ) → slice_index (replicate 5 0) k ≤ 100000000000
nothing_owed k = ⊎_elim
    (λ (inside : k < 5). omega (arith, get_or-replicate {A = ℕ} 5 k 0 0 inside))
    (λ (past : 5 ≤ k). omega (arith, get_or_past {X = ℕ} (replicate 5 0) k 0 (omega (arith, length-replicate {A = ℕ} 5 0, past))))
    (cases_lt k 5)

abbrev pub blank : Statement
blank = record { name = record { text = replicate 20 32 }; side = Client; owed = replicate 5 0; modest = nothing_owed }

-- blank from the count on
abbrev pub Kept : ℕ → List Statement → Type 0
Kept n rows = (n ≤ 32) × (length rows ≡ 32) × (drop n rows ≡ replicate (32 - n) blank)

pub counted : (n : ℕ) (rows : List Statement) → Kept n rows → length (take n rows) ≡ n
counted n rows h = length-take-le n rows (omega (arith, h.0, h.1))

pub filled_up : (n : ℕ) (rows : List Statement) → Kept n rows → take n rows ++ replicate (32 - length (take n rows)) blank ≡ rows
filled_up n rows h = ap (λ k. take n rows ++ replicate (32 - k) blank) (counted n rows h) ∙ ap (λ ys. take n rows ++ ys) (sym h.2) ∙ take-append-drop n rows
