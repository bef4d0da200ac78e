-- What makes rates, classes and series a sheet, while it is written and after.
use Rattle.std.specs.Prelude.{ℕ, ◌≤◌, IsTrue, List, length}
use Rattle.std.specs.List.{All}
use Rattle.sheet.specs.declared.rows.ClassRow.{ClassRow}
use Rattle.sheet.specs.declared.rows.Series.{Series}
use Rattle.sheet.specs.Limits.{class_fits, series_fits}
use Rattle.sheet.specs.Rows.{known}

-- there are at most 16 classes and 128 series, each row inside its limits, each class's currency with a rate, each series' class there
pub record IsSheet (rates : List ℕ) (classes : List ClassRow) (series : List Series) : Type 0 where
  pub few_classes : length classes ≤ 16
  pub few_series : length series ≤ 128
  pub classes_fit : All (λ r. IsTrue (class_fits rates r)) classes
  pub series_fit : All (λ s. IsTrue (series_fits s)) series
  pub series_known : All (λ s. IsTrue (known classes s)) series
