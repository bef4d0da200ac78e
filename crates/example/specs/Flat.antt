-- A flat rate: so many cents for every contract, long or short.
use Rattle.std.specs.Prelude.{ℕ, ◌*◌, List, ℤ, unsigned_abs, sum_by}
use Rattle.terms.specs.declared.words.Label.TheVariants.{Other}
use Rattle.charge.specs.Meanings.{Meaning}

-- the contracts without their signs, added up
abbrev pub gross : List ℤ → ℕ
gross p = sum_by unsigned_abs p

abbrev pub flat : ℕ → Meaning
flat cents = record {
  charged = λ t p. gross p * cents;
  allowed = λ t p q. 0;
  refuses = Other 20;
  blamed = λ t p. Other 20;
  faulted = λ t p q. Other 20;
}
