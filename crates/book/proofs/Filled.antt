-- Answers that are filled in one after the other, up to the first refusal, and what is added up of them.
use Rattle.std.proofs.Common.{◌≡◌, ℕ, zero, suc, ◌+◌, ◌<◌, ◌≤◌, Bool, true, false, cond, List, [], ◌∷◌, ◌++◌, map, length, get_or, take, drop, set, ℤ, pos, ◌+ℤ◌, ◌*ℤ◌, Ok, Err, Result, sym, refl, ap, ◌∙◌, arith}
use Rattle.std.specs.Prelude.{slice_index}
use Rattle.std.proofs.lemmas.List.{take_more_set, append_assoc, append-nil, take_all, at_drop_more, at_drop_all, drop_more}
use Rattle.terms.specs.declared.faults.Fault.{Fault}
use Rattle.terms.specs.declared.words.Currency.{Currency}
use Rattle.terms.specs.declared.words.Layer.TheVariants.{Account}
use Rattle.terms.specs.declared.words.Refusal.TheVariants.{TooLarge}
use Rattle.terms.specs.declared.names.Name.{Name}
use Rattle.terms.specs.Faults.{refused, with_currency}
use Rattle.terms.specs.Words.{currency_number}
use Rattle.sheet.specs.declared.rows.ClassRow.{ClassRow}
use Rattle.sheet.specs.Given.{class_at, given, no_class}
use Rattle.charge.specs.Meanings.{Meaning}
use Rattle.account.specs.declared.pools.ClassPool.{ClassPool}
use Rattle.account.specs.Outcomes.{and_then, beyond, onto, each}
use Rattle.account.specs.Pools.{class_pool}
use Rattle.account.specs.Sums.{same_currency, sum_of, currency_sum, currency_too_large}
use Rattle.account.proofs.Answered.{same_ok}
use Rattle.account.proofs.Joins.{class_pool_small}
use Rattle.account.proofs.Outcomes.{never}
use Rattle.book.specs.declared.rows.AccountRow.{AccountRow}
use Rattle.book.specs.Pool.{Limited, all_of, pieces_in, pool_in, pool_sum, allowances}
use Rattle.book.specs.State.{State}
use Rattle.book.proofs.Pools.{all_more, class_ok}

-- answers that stand already, before those to come
abbrev pub behind : {B : Type 0} → List B → Result (List B) Fault → Result (List B) Fault
behind xs r = and_then r (λ zs. Ok (xs ++ zs))

behind_more : {B : Type 0} (out : List B) (i : ℕ) (z : B) → i < length out → (r : Result (List B) Fault) → behind (take i out) (and_then r (λ ys. Ok (z ∷ ys))) ≡ behind (take (i + 1) (set out i z)) r
behind_more out i z q (Ok zs) = ap Ok (sym (ap (λ l. l ++ zs) (take_more_set out i z q) ∙ append_assoc (take i out) (z ∷ []) zs))
behind_more out i z q (Err e) = refl

module _ {A B : Type 0} (g : A → Result B Fault) (ks : List A) (i : ℕ) (out : List B) (ahead : behind (take i out) (all_of g (drop i ks)) ≡ all_of g ks) where
  pub all_refused : (d : A) (e : Fault) → i < length ks → Err e ≡ g (get_or ks i d) → Err e ≡ all_of g ks
  all_refused d e p stop =
      let more = at_drop_more (all_of g) ks i d p in
      sym (rw (more, ← stop)) ∙ ahead

  pub all_further : (d : A) (z : B) → i < length ks → i < length out → Ok z ≡ g (get_or ks i d) → behind (take (i + 1) (set out i z)) (all_of g (drop (i + 1) ks)) ≡ all_of g ks
  all_further d z p q go =
      let more = at_drop_more (all_of g) ks i d p in
      sym (rw (more, ← go) (behind_more out i z q (all_of g (drop (i + 1) ks)))) ∙ ahead

  pub all_filled : length ks ≤ i → length out ≤ i → Ok out ≡ all_of g ks
  all_filled p q = sym (ap (behind (take i out)) (at_drop_all (all_of g) ks i p) ∙ ap Ok (append-nil (take i out) ∙ take_all i out q)) ∙ ahead

-- the pools of classes lie within their limits
pub pools_limited : (m : Meaning) (s : State) (rows : List AccountRow) (classes : List ClassRow) (ps : List ClassPool) → all_of (pool_in m s rows) classes ≡ Ok ps → Limited ps
pools_limited m s rows [] ps e k d l = let none : ps ≡ [] = same_ok [] ps e in absurd (omega (arith, ap length none))
pools_limited m s rows (c ∷ classes) ps e zero d l =
    let a = all_more (pool_in m s rows) c classes ps e in
    let qs = pieces_in s c rows in
    rw a.4 (class_pool_small m (given c s.series) qs a.0 (class_ok c.code (class_pool m (given c s.series) qs) a.0 a.2))
pools_limited m s rows (c ∷ classes) ps e (suc k) d l =
    let a = all_more (pool_in m s rows) c classes ps e in
    rw a.4 (pools_limited m s rows classes a.1 a.3 k d (omega (arith, ap length a.4)))

-- one class more of a sum of a currency, and of the allowances
abbrev pub figures : List ClassPool → List ℤ
figures ps = map (λ (p : ClassPool). p.figure) ps

module _ (classes : List ClassRow) (ps : List ClassPool) (i : ℕ) (d : ClassPool) (below : i < length classes) (each : length ps ≡ length classes) where
  pub sum_more : (c : Currency) → sum_of c (drop i classes) (figures (drop i ps)) ≡ cond (same_currency (class_at classes i).currency c) (get_or ps i d).figure (pos 0) +ℤ sum_of c (drop (i + 1) classes) (figures (drop (i + 1) ps))
  sum_more c = rw (drop_more classes i no_class below, drop_more ps i d (omega (arith, below, each))) refl

  pub allowances_more : (rates : List ℕ) → allowances rates (drop i classes) (drop i ps) ≡ ((get_or ps i d).allowance *ℤ pos (slice_index rates (currency_number (class_at classes i).currency))) +ℤ allowances rates (drop (i + 1) classes) (drop (i + 1) ps)
  allowances_more rates = rw (drop_more classes i no_class below, drop_more ps i d (omega (arith, below, each))) refl

-- sums that a pool accepts are those that an account of any name would have accepted
pub sums_accepted : (name : Name) (classes : List ClassRow) (zs : List ℤ) (cs : List Currency) (xs : List ℤ) → all_of (pool_sum classes zs) cs ≡ Ok xs → each (currency_sum name classes zs) cs ≡ Ok xs
sums_accepted name classes zs [] xs e = e
sums_accepted name classes zs (c ∷ cs) xs e =
    let a = all_more (pool_sum classes zs) c cs xs e in
    let z = sum_of c classes zs in
    let one = accepted (beyond z) (with_currency c (refused TooLarge Account)) (currency_too_large name c) z a.0 a.2 in
    ap (λ r. and_then r (λ y. onto (y ∷ []) (each (currency_sum name classes zs) cs))) one ∙ ap (onto (a.0 ∷ [])) (sums_accepted name classes zs cs a.1 a.3) ∙ ap Ok (sym a.4)
  where
    accepted : (b : Bool) (e f : Fault) (y z : ℤ) → cond b (Err e) (Ok y) ≡ Ok z → cond b (Err f) (Ok y) ≡ Ok z
    accepted true e f y z h = absurd (never e z h)
    accepted false e f y z h = h
