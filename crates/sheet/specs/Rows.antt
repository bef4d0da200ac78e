-- The rows of the sheet: their order, and the series of a class.
use Rattle.std.specs.Prelude.{◌≡◌, ℕ, ◌-◌, ◌≤◌, Bool, cond, not, List, [], ◌∷◌, length, take, drop, ℤ, is_some, filter}
use Rattle.std.specs.Ordering.{is_lt, is_eq, is_gt}
use Rattle.std.specs.List.{prefix_len}
use Rattle.terms.specs.Order.{order}
use Rattle.terms.specs.Codes.{lettered}
use Rattle.terms.specs.Keys.{figured}
use Rattle.terms.specs.declared.codes.Code.{Code}
use Rattle.register.specs.Rows.{sought}
use Rattle.sheet.specs.declared.rows.ClassRow.{ClassRow}
use Rattle.sheet.specs.declared.rows.Series.{Series}

-- classes stand in order of code, series in order of key: class first
abbrev pub class_rank : ClassRow → List ℕ
class_rank r = lettered r.code

abbrev pub series_rank : Series → List ℕ
series_rank s = figured s.key

abbrev pub series_class : Series → List ℕ
series_class s = lettered s.key.class

-- the series of a class, in their order
abbrev pub of_class : Code → List Series → List Series
of_class c rows = filter (λ s. is_eq (order (series_class s) (lettered c))) rows

-- a series of an earlier class; a series of an earlier class or of this one
abbrev pub before : Code → Series → Bool
before c s = is_lt (order (series_class s) (lettered c))

abbrev pub through : Code → Series → Bool
through c s = not (is_gt (order (series_class s) (lettered c)))

-- how many rows stand before those of the class, and how many with these
abbrev pub before_class : Code → List Series → ℕ
before_class c rows = prefix_len (before c) rows

abbrev pub through_class : Code → List Series → ℕ
through_class c rows = prefix_len (through c) rows

-- whether a class row has the series's class
abbrev pub known : List ClassRow → Series → Bool
known classes s = is_some (sought class_rank (series_class s) classes)

-- of numbers that stand beside the rows, those of the class
abbrev pub beside : {X : Type 0} → Code → List Series → List X → List X
beside c [] ns = []
beside c (s ∷ rows) [] = []
beside c (s ∷ rows) (n ∷ ns) = cond (is_eq (order (series_class s) (lettered c))) (n ∷ beside c rows ns) (beside c rows ns)

-- the rows of the class are those from one place to another, and so are numbers beside them
pub record Spanned (c : Code) (rows : List Series) (from to : ℕ) : Type 0 where
  pub ordered : from ≤ to
  pub within : to ≤ length rows
  pub series : take (to - from) (drop from rows) ≡ of_class c rows
  pub counts : (ns : List ℤ) → length ns ≡ length rows → take (to - from) (drop from ns) ≡ beside c rows ns
