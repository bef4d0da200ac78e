-- What one account more adds to a requirement.
use Rattle.std.proofs.Common.{◌+◌, [], ◌∷◌, ap, zero-add, ◌∙◌}
use Rattle.std.proofs.lemmas.List.Sums.{sum_by-append}
use Rattle.collateral.specs.Requirements.{NoneLessens, owed_by, requirement_of}

pub none_lessens : NoneLessens
none_lessens = record { adds = λ s c rows a. sum_by-append (owed_by s c) rows (a ∷ []) ∙ ap (λ n. requirement_of s c rows + n) (zero-add (owed_by s c a)) }
