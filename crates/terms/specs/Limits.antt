-- Numbers from a lowest to a highest, and conversions that may fail.
use Rattle.std.specs.Prelude.{◌≡◌, ℕ, Bool, cond, ◌&&◌, ℤ, pos, Some, None, Option, Result, int_le}
use Rattle.std.specs.Result.{result_ok}
use borrow.Author.Differences.{up}

-- a number from a lowest to a highest
abbrev pub between_limits : ℤ → ℕ → ℕ → Bool
between_limits z low high = int_le (pos low) z && int_le z (pos high)

-- a number as it was given, if it is one
abbrev pub within : ℤ → ℕ → ℕ → Option ℕ
within z low high = cond (between_limits z low high) (Some (up z)) None

-- a conversion gives what is defined, and fails exactly where nothing is
abbrev pub Gives : {X E : Type 0} → Option X → Result X E → Type 0
Gives o r = result_ok r ≡ o
