-- Positions joined in one class, and what they come to as one piece.
use Rattle.std.specs.Prelude.{List, [], ◌∷◌, length, replicate, ℤ, pos, Ok, Result}
use Rattle.terms.specs.declared.faults.Fault.{Fault}
use Rattle.terms.specs.declared.words.Basis.TheVariants.{Net}
use Rattle.sheet.specs.Given.{Terms}
use Rattle.charge.specs.Meanings.{Meaning}
use Rattle.charge.specs.Positions.{joined}
use Rattle.charge.specs.Replies.{allowance_answer}
use Rattle.account.specs.declared.pools.ClassPool.{ClassPool}
use Rattle.account.specs.Outcomes.{and_then, bounded, plus}
use Rattle.account.specs.Figures.{position_figure}

-- The empty position of a class: all counts 0.
abbrev pub empty_position : Terms → List ℤ
empty_position t = replicate (length t.rows) (pos 0)

-- Pieces are joined one after the other.
abbrev pub joined_from : List ℤ → List (List ℤ) → List ℤ
joined_from p [] = p
joined_from p (q ∷ qs) = joined_from (joined p q) qs

-- Each join has an allowance, of what is joined so far and the next piece; they are added up.
abbrev pub joins : Meaning → Terms → List ℤ → List (List ℤ) → Result ℤ Fault
joins m t p [] = Ok (pos 0)
joins m t p (q ∷ qs) = and_then (allowance_answer m t p q) (λ x. plus x (joins m t (joined p q) qs))

-- The allowances' sum must not be too large; then comes the joined position: its mark and its charge. A refusal names no place yet.
abbrev pub pool_of : Meaning → Terms → List ℤ → ℤ → Result ClassPool Fault
pool_of m t p x = and_then (bounded x) (λ allowance. and_then (position_figure m Net t p) (λ figure. Ok (record { figure = figure; allowance = allowance })))

-- The pool of a class: the joins of its pieces come first.
abbrev pub class_pool : Meaning → Terms → List (List ℤ) → Result ClassPool Fault
class_pool m t qs = and_then (joins m t (empty_position t) qs) (pool_of m t (joined_from (empty_position t) qs))
