-- Rules 5 and 6: the fund, what each currency still owes, the requirement, and the law of the offset.
use Rattle.std.specs.Prelude.{◌≡◌, ℕ, ◌+◌, ◌-◌, ◌*◌, ◌/◌, ◌<◌, ◌≤◌, min, List, [], ◌∷◌, ℤ, pos, negsuc, ◌+ℤ◌, ◌≤ℤ◌, ◌<ℤ◌, slice_index, slice_index_or}
use Rattle.account.specs.Sums.{value_of}

-- A sum above 0 is a debit, a sum below 0 a credit; either is counted without its sign.
abbrev pub debit : ℤ → ℕ
debit (pos n) = n
debit (negsuc n) = 0

abbrev pub credit : ℤ → ℕ
credit (pos n) = 0
credit (negsuc n) = n + 1

-- The values of the credits form a fund.
abbrev pub fund_of : List ℤ → List ℕ → ℕ
fund_of [] rates = 0
fund_of (s ∷ sums) [] = 0
fund_of (s ∷ sums) (r ∷ rates) = credit s * r + fund_of sums rates

-- A debit loses the largest whole number of cents, at most itself, whose value the fund still covers.
abbrev pub loses : ℕ → ℕ → ℕ → ℕ
loses fund debt rate = min debt (fund / rate)

-- In currency order each debit loses what it can, and the fund falls by that value; the remaining debit is owed.
abbrev pub owed_of : ℕ → List ℤ → List ℕ → List ℕ
owed_of fund [] rates = []
owed_of fund (s ∷ sums) [] = []
owed_of fund (s ∷ sums) (r ∷ rates) = (debit s - loses fund (debit s) r) ∷ owed_of (fund - loses fund (debit s) r * r) sums rates

-- The requirement value is the sum of owed × rate.
abbrev pub requirement_of : List ℕ → List ℕ → ℕ
requirement_of [] rates = 0
requirement_of (x ∷ owed) [] = 0
requirement_of (x ∷ owed) (r ∷ rates) = x * r + requirement_of owed rates

-- The law of the offset: the account owes nothing exactly when its value is zero or a credit;
-- otherwise the requirement value covers the value, and its surplus is under one cent of every currency still owed.
pub record Law (sums : List ℤ) (rates : List ℕ) (owed : List ℕ) (requirement : ℕ) : Type 0 where
  pub settled : (value_of sums rates ≤ℤ pos 0) → (k : ℕ) → slice_index owed k ≡ 0
  pub settles : ((k : ℕ) → slice_index owed k ≡ 0) → value_of sums rates ≤ℤ pos 0
  pub covered : value_of sums rates ≤ℤ pos requirement
  pub close : (k : ℕ) → 0 < slice_index owed k → pos requirement <ℤ (value_of sums rates +ℤ pos (slice_index rates k))

-- ---- limits that the offset is formed within
-- Sums are within 10^11, rates at most 200,000, and a currency with a debit has a rate.
pub record Limits (sums : List ℤ) (rates : List ℕ) : Type 0 where
  pub debits : (k : ℕ) → debit (slice_index_or sums k (pos 0)) ≤ 100000000000
  pub credits : (k : ℕ) → credit (slice_index_or sums k (pos 0)) ≤ 100000000000
  pub low : (k : ℕ) → slice_index rates k ≤ 200000
  pub rated : (k : ℕ) → 0 < debit (slice_index_or sums k (pos 0)) → 0 < slice_index rates k

-- What is owed in each currency is at most 10^11.
abbrev pub Owable : List ℕ → Type 0
Owable owed = (k : ℕ) → slice_index owed k ≤ 100000000000
