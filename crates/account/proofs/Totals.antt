-- Currency sums and values are formed from the front; accepted sums lie within their limit, and a debit has a rate.
use Rattle.std.proofs.Common.{◌≡◌, ℕ, zero, suc, ◌<◌, ◌≤◌, Bool, true, false, cond, List, [], ◌∷◌, length, get_or, ℤ, pos, negsuc, ◌+ℤ◌, ◌*ℤ◌, nat_abs, Ok, Err, Result, sym, refl, ap, ◌∙◌, ⊎_elim, arith}
use lib.IntN.{+ℤ_idl}
use Rattle.std.specs.List.{All as AllAt, AllByRecursion as All}
use Rattle.std.specs.Prelude.{IsTrue}
use Rattle.std.proofs.lemmas.Bool.{cases_lt, cases_Bool, ltb-false, eqb-true, and_parts, ltb-true}
use Rattle.terms.specs.declared.faults.Fault.{Fault}
use Rattle.terms.specs.declared.names.Name.{Name}
use Rattle.terms.specs.declared.words.Currency.{Currency}
use Rattle.terms.specs.declared.words.Currency.TheVariants.{Hkd, Usd, Eur, Jpy, Rmb}
use Rattle.terms.specs.contracts.words.Currency.{the_type}
use denote.Enum.Declared.{tag_of}
use denote.Enum.Bare.{sameb}
use Rattle.terms.specs.Words.{currency_number}
use Rattle.sheet.specs.declared.rows.ClassRow.{ClassRow}
use Rattle.sheet.specs.Limits.{quoted, class_fits}
use Rattle.std.proofs.lemmas.List.Elements.{recursion_from_All}
use Rattle.std.proofs.lemmas.Result.{err_from_is_err_and}
use Rattle.std.specs.Result.{MatchResult, IsErrAnd}
use Rattle.terms.specs.declared.words.Refusal.TheVariants.{TooLarge}
use Rattle.terms.specs.declared.words.Layer.TheVariants.{Account}
use Rattle.terms.specs.Faults.{refused}
use Rattle.account.specs.Outcomes.{beyond, bounded, and_then, onto, each}
use Rattle.account.specs.Sums.{currencies, currency_at, same_currency, sum_of, currency_too_large, currency_sum, sums_of, value_of}
use Rattle.account.specs.Offset.{debit, credit, Limits}
use Rattle.account.specs.Plain.{all_sums}
use Rattle.account.proofs.Outcomes.{never}

-- equal currencies are those of one number
tagged : (c : Currency) → tag_of the_type c ≡ currency_number c
tagged Hkd = refl
tagged Usd = refl
tagged Eur = refl
tagged Jpy = refl
tagged Rmb = refl

pub same_is : (a b : Currency) → sameb the_type a b ≡ same_currency a b
same_is a b = rw (tagged a, tagged b)

-- one currency, and the currencies after it: what a loop over sums and rates has ahead of it
module _ (all : List ℤ) (rates : List ℕ) (s : ℤ) (ss : List ℤ) (r : ℕ) (rs : List ℕ) (first : all ≡ s ∷ ss) (second : rates ≡ r ∷ rs) where
  pub limits_ahead : Limits all rates → Limits ss rs
  limits_ahead l =
      let h : Limits (s ∷ ss) (r ∷ rs) = rw (first, second) at l in
      record { debits = λ k. h.debits (suc k); credits = λ k. h.credits (suc k); low = λ k. h.low (suc k); rated = λ k. h.rated (suc k) }

  pub one_limited : Limits all rates → (debit s ≤ 100000000000) × (credit s ≤ 100000000000) × (r ≤ 200000)
  one_limited l = let h : Limits (s ∷ ss) (r ∷ rs) = rw (first, second) at l in (h.debits 0, h.credits 0, h.low 0)

  pub value_ahead : value_of all rates ≡ s *ℤ pos r +ℤ value_of ss rs
  value_ahead = rw (first, second)

pub value_none : (ss : List ℤ) → value_of ss [] ≡ pos 0
value_none [] = refl
value_none (s ∷ ss) = refl

-- what accepted sums come from
took : (r : Result ℤ Fault) (s : Result (List ℤ) Fault) (xs : List ℤ) → and_then r (λ z. onto (z ∷ []) s) ≡ Ok xs → (z : ℤ) × (zs : List ℤ) × (r ≡ Ok z) × (s ≡ Ok zs) × (xs ≡ z ∷ zs)
took (Ok z) (Ok zs) xs e = (z, zs, refl, refl, cc)
took (Ok z) (Err f) xs e = absurd (never f xs e)
took (Err f) s xs e = absurd (never f xs e)

within : (b : Bool) (f : Fault) (y z : ℤ) → cond b (Err f) (Ok y) ≡ Ok z → (b ≡ false) × (z ≡ y)
within true f y z e = absurd (never f z e)
within false f y z e = (refl, cc)

pub within_limit : (y z : ℤ) → Ok y ≡ bounded z → nat_abs y ≤ 100000000000
within_limit y z h = let w = within (beyond z) (refused TooLarge Account) z y (sym h) in rw w.1 (ltb-false 100000000000 (nat_abs z) w.0)

-- a sum that passed its test, or whose refusal then was told account and currency
pub told_sum : (b : Bool) (f : Fault) (g : Fault → Fault) (z : ℤ) (r s : Result ℤ Fault) {P : Fault → Fault → Type 0} → r ≡ cond b (Err f) (Ok z) → MatchResult r (λ z. s ≡ Ok z) (λ e. IsErrAnd s (P e)) → ((e f : Fault) → P e f → f ≡ g e) → s ≡ cond b (Err (g f)) (Ok z)
told_sum true f g z r s q h told = let p = err_from_is_err_and s (rw q at h) in p.1 ∙ ap Err (told f p.0 p.2)
told_sum false f g z r s q h told = rw q at h

-- an accepted sum lies within its limit and is that of its currency; past the currencies there is none
module _ (name : Name) (ks : List ClassRow) (zs : List ℤ) where
  sums_at : (cs : List Currency) (xs : List ℤ) → each (currency_sum name ks zs) cs ≡ Ok xs → (k : ℕ) → (nat_abs (get_or xs k (pos 0)) ≤ 100000000000) × (k < length cs → get_or xs k (pos 0) ≡ sum_of (get_or cs k Rmb) ks zs) × (length cs ≤ k → get_or xs k (pos 0) ≡ pos 0)
  sums_at [] xs e k = let n : xs ≡ [] = cc in rw n (omega arith, λ l. absurd (omega arith), λ l. refl)
  sums_at (c ∷ cs) xs e zero =
      let t = took (currency_sum name ks zs c) (each (currency_sum name ks zs) cs) xs e in
      let w = within (beyond (sum_of c ks zs)) (currency_too_large name c) (sum_of c ks zs) t.0 t.2 in
      rw (t.4, w.1) (ltb-false 100000000000 (nat_abs (sum_of c ks zs)) w.0, λ l. refl, λ l. absurd (omega arith))
  sums_at (c ∷ cs) xs e (suc k) =
      let t = took (currency_sum name ks zs c) (each (currency_sum name ks zs) cs) xs e in
      let r = sums_at cs t.1 t.3 k in
      rw t.4 (r.0, λ l. r.1 (omega arith), λ l. r.2 (omega arith))

-- a currency whose sum is a debit has a class, and so a rate
rated_sum : (ks : List ClassRow) (zs : List ℤ) (c : Currency) (rates : List ℕ) → All (λ k. class_fits rates k ≡ true) ks → 0 < debit (sum_of c ks zs) → 0 < get_or rates (currency_number c) 0
rated_sum [] zs c rates h p = absurd (omega arith)
rated_sum (k ∷ ks) [] c rates h p = absurd (omega arith)
rated_sum (k ∷ ks) (z ∷ zs) c rates h p = ⊎_elim
    (λ (e : same_currency k.currency c ≡ true). rw (eqb-true (currency_number k.currency) (currency_number c) e) at (ltb-true 0 _ (and_parts _ (quoted rates k.currency) h.0).1))
    (λ (e : same_currency k.currency c ≡ false). rated_sum ks zs c rates h.1 (rw (e, +ℤ_idl (sum_of c ks zs)) at p))
    (cases_Bool (same_currency k.currency c))

each_rated : (ks : List ClassRow) (zs : List ℤ) (rates : List ℕ) → ((c : Currency) → 0 < debit (sum_of c ks zs) → 0 < get_or rates (currency_number c) 0)
    → (k : ℕ) → 0 < debit (get_or (all_sums ks zs) k (pos 0)) → 0 < get_or rates k 0
each_rated ks zs rates at zero p = at Hkd p
each_rated ks zs rates at (suc zero) p = at Usd p
each_rated ks zs rates at (suc (suc zero)) p = at Eur p
each_rated ks zs rates at (suc (suc (suc zero))) p = at Jpy p
each_rated ks zs rates at (suc (suc (suc (suc zero)))) p = at Rmb p
each_rated ks zs rates at (suc (suc (suc (suc (suc k))))) p = absurd (omega arith)

-- the sums of the currencies one by one: where one is a debit it has a rate
pub rated_sums : (ks : List ClassRow) (zs : List ℤ) (rates : List ℕ) → AllAt (λ k. IsTrue (class_fits rates k)) ks → (k : ℕ) → 0 < debit (get_or (all_sums ks zs) k (pos 0)) → 0 < get_or rates k 0
rated_sums ks zs rates fit k p =
    let at : (c : Currency) → 0 < debit (sum_of c ks zs) → 0 < get_or rates (currency_number c) 0 = λ c q. rated_sum ks zs c rates (recursion_from_All (λ k. class_fits rates k ≡ true) ks fit) q in
    each_rated ks zs rates at k p

-- a currency's number is its place in their order
pub numbered : (k : ℕ) (d : Currency) → k < 5 → currency_number (get_or currencies k d) ≡ k
numbered zero d p = refl
numbered (suc zero) d p = refl
numbered (suc (suc zero)) d p = refl
numbered (suc (suc (suc zero))) d p = refl
numbered (suc (suc (suc (suc zero)))) d p = refl
numbered (suc (suc (suc (suc (suc k))))) d p = absurd (omega arith)

debit_le : (z : ℤ) → debit z ≤ nat_abs z
debit_le (pos n) = omega arith
debit_le (negsuc n) = omega arith

credit_le : (z : ℤ) → credit z ≤ nat_abs z
credit_le (pos n) = omega arith
credit_le (negsuc n) = omega arith

pub sums_limits : (name : Name) (ks : List ClassRow) (zs xs : List ℤ) (rates : List ℕ) → sums_of name ks zs ≡ Ok xs → ((k : ℕ) → get_or rates k 0 ≤ 200000) → AllAt (λ k. IsTrue (class_fits rates k)) ks → Limits xs rates
sums_limits name ks zs xs rates e low fit = record {
  debits = λ k. omega (arith, debit_le (get_or xs k (pos 0)), (sums_at name ks zs currencies xs e k).0);
  credits = λ k. omega (arith, credit_le (get_or xs k (pos 0)), (sums_at name ks zs currencies xs e k).0);
  low = low;
  rated = λ k p. ⊎_elim
      (λ (l : k < 5). rw (numbered k Rmb l) at (rated_sum ks zs (currency_at k) rates (recursion_from_All (λ k. class_fits rates k ≡ true) ks fit) (rw ((sums_at name ks zs currencies xs e k).1 l) at p)))
      (λ (l : 5 ≤ k). absurd (omega (arith, ap debit ((sums_at name ks zs currencies xs e k).2 l))))
      (cases_lt k 5);
}
