-- The two halves of a risk array.
use Rattle.std.specs.Prelude.{List, ◌++◌, take, drop, ℤ}

-- an array with its first eight values, and with its second
abbrev pub begun : List ℤ → List ℤ → List ℤ
begun a zs = zs ++ drop 8 a

abbrev pub ended : List ℤ → List ℤ → List ℤ
ended a zs = take 8 a ++ zs
