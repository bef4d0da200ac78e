-- Figures that may be refused, one after the other.
use Rattle.std.specs.Prelude.{Bool, cond, List, [], ◌∷◌, ◌++◌, ℤ, ◌+ℤ◌, Ok, Err, Result, nat_lt, unsigned_abs}
use Rattle.terms.specs.declared.words.Refusal.TheVariants.{TooLarge}
use Rattle.terms.specs.declared.words.Layer.TheVariants.{Account}
use Rattle.terms.specs.declared.faults.Fault.{Fault}
use Rattle.terms.specs.Faults.{refused}

-- A figure is too large when it lies beyond 10^11 cents of zero.
abbrev pub beyond : ℤ → Bool
beyond z = nat_lt 100000000000 (unsigned_abs z)

-- A figure, or where it is too large refusal 9 of the account's layer.
abbrev pub bounded : ℤ → Result ℤ Fault
bounded z = cond (beyond z) (Err (refused TooLarge Account)) (Ok z)

-- What follows is done with the answer; a refusal ends it.
abbrev pub and_then : {X Y E : Type 0} → Result X E → (X → Result Y E) → Result Y E
and_then (Ok x) f = f x
and_then (Err e) f = Err e

-- A figure added to an answer.
abbrev pub plus : {E : Type 0} → ℤ → Result ℤ E → Result ℤ E
plus a (Ok x) = Ok (a +ℤ x)
plus a (Err e) = Err e

-- Figures that stand already, before those to come.
abbrev pub onto : {E : Type 0} → List ℤ → Result (List ℤ) E → Result (List ℤ) E
onto xs (Ok zs) = Ok (xs ++ zs)
onto xs (Err e) = Err e

-- The figures of all elements in their order, or the first refusal.
abbrev pub each : {A E : Type 0} → (A → Result ℤ E) → List A → Result (List ℤ) E
each g [] = Ok []
each g (k ∷ ks) = and_then (g k) (λ z. onto (z ∷ []) (each g ks))

-- What a call answers together with what its place then holds.
abbrev pub filled : {X Y E : Type 0} → Result Y E → X → Result X E
filled (Ok y) x = Ok x
filled (Err e) x = Err e

-- What stands in the caller's place at the end: a refusal leaves it as it was.
abbrev pub left_in : {X E : Type 0} → Result X E → X → X
left_in (Ok x) old = x
left_in (Err e) old = old
