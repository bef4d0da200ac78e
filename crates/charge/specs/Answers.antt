-- What a charge answers: the figure, or a refusal.
use Rattle.std.specs.Prelude.{ℕ, Bool, cond, ℤ, pos, Ok, Err, Result, nat_le}
use Rattle.terms.specs.Faults.{refused, with_label}
use Rattle.terms.specs.declared.faults.Fault.{Fault}
use Rattle.terms.specs.declared.words.Label.{Label}
use Rattle.terms.specs.declared.words.Layer.TheVariants.{Charge}
use Rattle.terms.specs.declared.words.Refusal.TheVariants.{Limit, TooLarge}

-- a position outside its limits is refused by row 3, with the label of the charge that refuses it
abbrev pub outside : Label → Fault
outside l = with_label l (refused Limit Charge)

-- a position that fits passes its charge's test
abbrev pub judged : Bool → Label → Result (Unit {0}) Fault
judged fit refuses = cond fit (Ok tt) (Err (outside refuses))

-- a figure beyond 10^11 is refused by row 9, with the label of the charge
abbrev pub too_large : Label → Fault
too_large l = with_label l (refused TooLarge Charge)

unfoldable pub limited : ℕ → Label → Result ℤ Fault
limited n l = cond (nat_le n 100000000000) (Ok (pos n)) (Err (too_large l))

-- nothing else is refused: the labels are that of a figure too large and that of a position outside its limits
abbrev pub answer : Bool → ℕ → Label → Label → Result ℤ Fault
answer fit n large refuses = cond fit (limited n large) (Err (outside refuses))

-- of two figures worked out one after the other: the label of the first that is too large, or else the composite's own
abbrev pub first_blamed : ℕ → Label → ℕ → Label → Label → Label
first_blamed m a n b own = cond (nat_le m 100000000000) (cond (nat_le n 100000000000) own b) a
