-- Each charge is lawful: the three of their own by their figures, a composite by its parts.
use Rattle.std.specs.Prelude.{max}
use Rattle.std.proofs.Common.{arith, zero-mul}
use Rattle.terms.specs.declared.words.Kind.TheVariants.{Call, Put}
use Rattle.charge.specs.Positions.{joined}
use Rattle.charge.specs.Minimum.{shorts}
use Rattle.charge.specs.Meanings.{Meaning, Lawful, scanning, spreading, minimum, summed, greater}
use Rattle.charge.specs.Sizes.{rated}
use Rattle.charge.specs.Losses.{worst_zero, worst_join}
use Rattle.charge.specs.Shorts.{shorts_zero, shorts_join}
use Rattle.charge.specs.Months.{spread_zero, spread_join}

pub scanning_lawful : Lawful scanning
scanning_lawful = record {
  zero = λ t n. worst_zero 16 t.rows n;
  join = λ t p q e. omega (arith, worst_join 16 t.rows p q e);
}

pub spreading_lawful : Lawful spreading
spreading_lawful = record {
  zero = λ t n. spread_zero t.spread_rate t.rows n;
  join = λ t p q e. spread_join t.spread_rate t.rows p q e;
}

pub minimum_lawful : Lawful minimum
minimum_lawful = record {
  zero = λ t n. rw (shorts_zero Call t.rows n, shorts_zero Put t.rows n) (zero-mul t.minimum_rate);
  join = λ t p q e.
      let rows = t.rows in
      let h = rated (max (shorts Call rows (joined p q)) (shorts Put rows (joined p q))) (max (shorts Call rows p) (shorts Put rows p)) (max (shorts Call rows q) (shorts Put rows q)) 0 t.minimum_rate (omega (arith, shorts_join Call rows p q e, shorts_join Put rows p q e)) in
      omega (arith, zero-mul t.minimum_rate);
}

pub summed_lawful : (a b : Meaning) → Lawful a → Lawful b → Lawful (summed a b)
summed_lawful a b v w = record {
  zero = λ t n. omega (arith, v.zero t n, w.zero t n);
  join = λ t p q e. omega (arith, v.join t p q e, w.join t p q e);
}

pub greater_lawful : (a b : Meaning) → Lawful a → Lawful b → Lawful (greater a b)
greater_lawful a b v w = record {
  zero = λ t n. omega (arith, v.zero t n, w.zero t n);
  join = λ t p q e. omega (arith, v.join t p q e, w.join t p q e);
}
