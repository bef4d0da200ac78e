-- The class that a charge is given.
use Rattle.std.specs.Prelude.{ℕ, List, None, Option, slice_index_or}
use Rattle.terms.specs.declared.words.Currency.TheVariants.{Hkd}
use Rattle.sheet.specs.declared.rows.ClassRow.{ClassRow}
use Rattle.sheet.specs.declared.rows.Series.{Series}
use Rattle.sheet.specs.Rows.{of_class}

-- what stands where no row does
abbrev pub no_class : ClassRow
no_class = record { code = record { first = 0; second = 0; third = 0 }; currency = Hkd; spread_rate = None; minimum_rate = 0 }

-- the row at a place
abbrev pub class_at : List ClassRow → ℕ → ClassRow
class_at rows i = slice_index_or rows i no_class

-- a class as plain values: what a charge depends on
pub record Terms : Type 0 where
  pub spread_rate : Option ℕ
  pub minimum_rate : ℕ
  pub rows : List Series

-- a row's rates, with all series of its code and no other
abbrev pub given : ClassRow → List Series → Terms
given row rows = record { spread_rate = row.spread_rate; minimum_rate = row.minimum_rate; rows = of_class row.code rows }
