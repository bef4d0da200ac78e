-- The surplus of the requirement over the value is what is left of the fund; the law follows from that balance.
use Rattle.std.proofs.Common.{◌≡◌, ℕ, zero, suc, ◌+◌, ◌-◌, ◌*◌, ◌/◌, ◌<◌, ◌≤◌, List, [], ◌∷◌, get_or, ℤ, pos, negsuc, ◌*ℤ◌, sym, refl, ap, ◌∙◌, mul-le-mul_right, add-mul, div-mul-le_self, arith}
use native.Mathlib.Nat.{lt-div-mul-add}
use borrow.Author.Differences.{up, down, ints}
use Rattle.account.specs.Sums.{value_of}
use Rattle.account.specs.Offset.{debit, credit, fund_of, loses, owed_of, requirement_of, Law, Owable}

-- what is left of the fund
abbrev pub left_of : ℕ → List ℤ → List ℕ → ℕ
left_of f [] rs = f
left_of f (s ∷ ss) [] = f
left_of f (s ∷ ss) (r ∷ rs) = left_of (f - loses f (debit s) r * r) ss rs

abbrev pub debts : List ℤ → List ℕ → ℕ
debts [] rs = 0
debts (s ∷ ss) [] = 0
debts (s ∷ ss) (r ∷ rs) = debit s * r + debts ss rs

-- one loses: it is covered, and what the debit loses in value
pub loses_covered : (f d r : ℕ) → loses f d r * r ≤ f
loses_covered f d r = let h : loses f d r * r ≤ f / r * r = mul-le-mul_right r (omega arith) in omega (arith, div-mul-le_self f r)

pub loses_splits : (d c r : ℕ) → c ≤ d → (d - c) * r + c * r ≡ d * r
loses_splits d c r h = sym (add-mul (d - c) c r) ∙ ap (λ n. n * r) (omega arith)

pub balance : (f : ℕ) (ss : List ℤ) (rs : List ℕ) → requirement_of (owed_of f ss rs) rs + f ≡ debts ss rs + left_of f ss rs
balance f [] rs = omega arith
balance f (s ∷ ss) [] = omega arith
balance f (s ∷ ss) (r ∷ rs) =
    let c : ℕ = loses f (debit s) r in
    let i = balance (f - c * r) ss rs in
    omega (arith, i, loses_covered f (debit s) r, loses_splits (debit s) c r (omega arith))

pub left_le : (f : ℕ) (ss : List ℤ) (rs : List ℕ) → left_of f ss rs ≤ f
left_le f [] rs = omega arith
left_le f (s ∷ ss) [] = omega arith
left_le f (s ∷ ss) (r ∷ rs) = omega (arith, left_le (f - loses f (debit s) r * r) ss rs)

-- a debit that stays leaves a fund below its rate
pub loses_short : (f d r : ℕ) → 0 < r → 0 < d - loses f d r → f - loses f d r * r < r
loses_short f d r p q = let e : loses f d r ≡ f / r = omega arith in rw e (omega (arith, lt-div-mul-add {a = f} {b = r} p, div-mul-le_self f r))

abbrev pub Rated : List ℤ → List ℕ → Type 0
Rated ss rs = (k : ℕ) → 0 < debit (get_or ss k (pos 0)) → 0 < get_or rs k 0

pub short : (f : ℕ) (ss : List ℤ) (rs : List ℕ) → Rated ss rs → (k : ℕ) → 0 < get_or (owed_of f ss rs) k 0 → left_of f ss rs < get_or rs k 0
short f [] rs h k q = absurd (omega arith)
short f (s ∷ ss) [] h k q = absurd (omega arith)
short f (s ∷ ss) (r ∷ rs) h zero q =
    let p : 0 < r = h 0 (omega arith) in
    omega (arith, left_le (f - loses f (debit s) r * r) ss rs, loses_short f (debit s) r p q)
short f (s ∷ ss) (r ∷ rs) h (suc k) q = short (f - loses f (debit s) r * r) ss rs (λ j. h (suc j)) k q

-- where nothing is owed the requirement is 0; and where something is, it is at least that rate
pub none_required : (xs rs : List ℕ) → ((k : ℕ) → get_or xs k 0 ≡ 0) → requirement_of xs rs ≡ 0
none_required [] rs h = refl
none_required (x ∷ xs) [] h = refl
none_required (x ∷ xs) (r ∷ rs) h =
    let z : x ≡ 0 = h 0 in
    rw z (omega (arith, none_required xs rs (λ k. h (suc k))))

pub some_required : (xs rs : List ℕ) (k : ℕ) → 0 < get_or xs k 0 → get_or rs k 0 ≤ requirement_of xs rs
some_required [] rs k h = absurd (omega arith)
some_required (x ∷ xs) [] zero h = omega arith
some_required (x ∷ xs) [] (suc k) h = omega arith
some_required (x ∷ xs) (r ∷ rs) zero h = omega (arith, mul-le-mul_right {m = 1} {n = x} r h)
some_required (x ∷ xs) (r ∷ rs) (suc k) h = omega (arith, some_required xs rs k h)

-- a product by a rate, by its two parts
pub times_is : (s : ℤ) (r : ℕ) → (up (s *ℤ pos r) + credit s * r ≡ down (s *ℤ pos r) + debit s * r)
times_is (pos n) r = omega arith
times_is (negsuc n) r = omega (arith, ints, add-mul n 1 r)

pub value_is : (ss : List ℤ) (rs : List ℕ) → up (value_of ss rs) + fund_of ss rs ≡ down (value_of ss rs) + debts ss rs
value_is [] rs = refl
value_is (s ∷ ss) [] = refl
value_is (s ∷ ss) (r ∷ rs) = omega (arith, ints, times_is s r, value_is ss rs)

settle : (n : ℕ) → (0 < n → ⊥) → n ≡ 0
settle zero h = refl
settle (suc n) h = absurd (h (omega arith))

pub law : (ss : List ℤ) (rs : List ℕ) → Rated ss rs → Law ss rs (owed_of (fund_of ss rs) ss rs) (requirement_of (owed_of (fund_of ss rs) ss rs) rs)
law ss rs h =
    let f : ℕ = fund_of ss rs in
    let b = balance f ss rs in
    let v = value_is ss rs in
    record {
      settled = λ le k. settle (get_or (owed_of f ss rs) k 0) (λ q. omega (arith, ints, b, v, short f ss rs h k q, some_required (owed_of f ss rs) rs k q));
      settles = λ none. omega (arith, ints, none_required (owed_of f ss rs) rs none, b, v);
      covered = omega (arith, ints, b, v);
      close = λ k q. omega (arith, ints, b, v, short f ss rs h k q);
    }

-- nothing owed is more than its debit
pub owed_owable : (f : ℕ) (ss : List ℤ) (rs : List ℕ) → ((k : ℕ) → debit (get_or ss k (pos 0)) ≤ 100000000000) → Owable (owed_of f ss rs)
owed_owable f [] rs h k = omega arith
owed_owable f (s ∷ ss) [] h k = omega arith
owed_owable f (s ∷ ss) (r ∷ rs) h zero = omega (arith, h 0)
owed_owable f (s ∷ ss) (r ∷ rs) h (suc k) = owed_owable (f - loses f (debit s) r * r) ss rs (λ j. h (suc j)) k
