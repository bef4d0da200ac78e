-- The first line of what an input has left.
use Rattle.std.specs.Prelude.{ℕ, List, take}
use Rattle.std.specs.Io.BufRead.{take_through}

-- the first line, its line feed with it, cut at 82 bytes
abbrev pub first_line : List ℕ → List ℕ
first_line s = take_through 10 (take 82 s)
