-- A row is made exactly of what is inside its limits, and then its own tests pass.
use Rattle.std.proofs.Common.{◌≡◌, ℕ, ◌*◌, Bool, true, false, cond, ◌&&◌, leb, List, ℤ, pos, negsuc, nat_abs, is_some, Some, None, Option, unwrap_or, sym, refl, ap, ◌∙◌}
use borrow.Author.Differences.{up}
use Rattle.std.specs.Bool.{then_some}
use Rattle.std.proofs.lemmas.Bool.{true≢false, false≢true, and_parts, and_from, and_left, and_right, cond-false}
use Rattle.terms.specs.Codes.{proper}
use Rattle.terms.specs.Keys.{key_fits, key_of, month_fits, strike_fits}
use Rattle.terms.specs.Limits.{between_limits, within}
use Rattle.terms.specs.declared.codes.Code.{Code}
use Rattle.terms.specs.declared.keys.SeriesKey.{SeriesKey}
use Rattle.terms.specs.declared.words.Currency.{Currency}
use Rattle.sheet.specs.declared.rows.ClassRow.{ClassRow}
use Rattle.sheet.specs.declared.rows.Listing.{Listing}
use Rattle.sheet.specs.declared.rows.Series.{Series}
use Rattle.sheet.specs.Limits.{quoted, terms_fit, published, class_of, line_fits, values_fit, keyed, listed_row, line_of, series_of, row_fits, class_fits, series_fits}

-- ---- something if a test passes
pub none_if : {X : Type 0} (b : Bool) (x : X) → None ≡ cond b (Some x) None → b ≡ false
none_if true x e = absurd (true≢false (sym (ap is_some e)))
none_if false x e = refl

pub some_if : {X : Type 0} (b : Bool) (x y : X) → Some y ≡ cond b (Some x) None → (b ≡ true) × (y ≡ x)
some_if true x y e = (refl, cc)
some_if false x y e = absurd (true≢false (ap is_some e))

-- ---- a number inside its limits is not negative
whole : (z : ℤ) (low high : ℕ) → between_limits z low high ≡ true → pos (up z) ≡ z
whole (pos n) low high e = refl
whole (negsuc n) low high e = absurd (false≢true e)

under : (z : ℤ) (low high : ℕ) → between_limits z low high ≡ true → leb (up z) high ≡ true
under (pos n) low high e = (and_parts (leb low n) (leb n high) e).1
under (negsuc n) low high e = absurd (false≢true e)

rate_under : (s : Option ℤ) → between_limits (unwrap_or s (pos 0)) 0 100000 ≡ true → leb (unwrap_or (published s) 0) 100000 ≡ true
rate_under None e = refl
rate_under (Some z) e = under z 0 100000 e

-- ---- a class's row
module _ (code : Code) (c : Currency) (spread : Option ℤ) (minimum : ℤ) (row : ClassRow) (made : Some row ≡ class_of code c spread minimum) where
  abbrev class_made : ClassRow
  class_made = record { code = code; currency = c; spread_rate = published spread; minimum_rate = up minimum }

  pub class_row_is : (terms_fit code spread minimum ≡ true) × (row ≡ class_made)
  class_row_is = some_if (terms_fit code spread minimum) class_made row made

  pub class_row_fits : (rates : List ℕ) → quoted rates c ≡ true → class_fits rates row ≡ true
  class_row_fits rates q =
      let a = and_parts (proper code) (between_limits (unwrap_or spread (pos 0)) 0 100000 && between_limits minimum 0 1000000) class_row_is.0 in
      let b = and_parts (between_limits (unwrap_or spread (pos 0)) 0 100000) (between_limits minimum 0 1000000) a.1 in
      rw class_row_is.1 (and_from (row_fits class_made) (quoted rates c) (and_from (proper code) _ a.0 (and_from (leb (unwrap_or (published spread) 0) 100000) _ (rate_under spread b.0) (under minimum 0 1000000 b.1))) q)

-- ---- a series' row
module _ (l : Listing) (array : List ℤ) where
  unmade : line_fits l ≡ false → None ≡ series_of l array
  unmade e = sym (cond-false (line_fits l) (Some (listed_row l array)) None e)

  pub no_price : None ≡ within l.price 0 10000000 → None ≡ series_of l array
  no_price e = unmade (and_right (key_fits l.key) _ (and_left (between_limits l.price 0 10000000) _ (none_if (between_limits l.price 0 10000000) (up l.price) e)))

  pub no_shares : None ≡ within l.shares 1 99999 → None ≡ series_of l array
  no_shares e = unmade (and_right (key_fits l.key) _ (and_right (between_limits l.price 0 10000000) _ (and_left (between_limits l.shares 1 99999) _ (none_if (between_limits l.shares 1 99999) (up l.shares) e))))

  same_if : {X : Type 0} (a b c d : Bool) (x : X) → a ≡ true → b ≡ true → c ≡ true → then_some d x ≡ cond (a && (b && (c && d))) (Some x) None
  same_if a b c true x p q r = rw (p, q, r) refl
  same_if a b c false x p q r = rw (p, q, r) refl

  pub series_is : (k : SeriesKey) (p n : ℕ) → Some k ≡ key_of l.key → Some p ≡ within l.price 0 10000000 → Some n ≡ within l.shares 1 99999 →
      then_some (leb (p * n) 10000000 && leb (nat_abs l.delta) 100) (record { key = k; price = p; shares = n; delta = l.delta; array = array }) ≡ series_of l array
  series_is k p n ek ep en =
      let a = some_if (key_fits l.key) (keyed l.key) k ek in
      let b = some_if (between_limits l.price 0 10000000) (up l.price) p ep in
      let c = some_if (between_limits l.shares 1 99999) (up l.shares) n en in
      rw (a.1, b.1, c.1) (same_if (key_fits l.key) (between_limits l.price 0 10000000) (between_limits l.shares 1 99999) _ (listed_row l array) a.0 b.0 c.0)

  -- the numbers of a row, given again, pass again
  line_again : line_fits l ≡ true → line_fits (line_of (listed_row l array)) ≡ true
  line_again e =
      let a = and_parts (key_fits l.key) _ e in
      let b = and_parts (between_limits l.price 0 10000000) _ a.1 in
      let s = and_parts (between_limits l.shares 1 99999) _ b.1 in
      let f = and_parts (proper l.key.class) _ a.0 in
      let g = and_parts (month_fits l.key.month) (strike_fits l.key.strike) f.1 in
      let m = and_parts (between_limits l.key.month 200001 209912) _ g.0 in
      let same : line_of (listed_row l array) ≡ l =
      ap (λ z. record { key = record { class = l.key.class; month = z; kind = l.key.kind; strike = pos (up l.key.strike) }; price = pos (up l.price); shares = pos (up l.shares); delta = l.delta }) (whole l.key.month 200001 209912 m.0)
      ∙ ap (λ z. record { key = record { class = l.key.class; month = l.key.month; kind = l.key.kind; strike = z }; price = pos (up l.price); shares = pos (up l.shares); delta = l.delta }) (whole l.key.strike 1 99999999 g.1)
      ∙ ap (λ z. record { key = l.key; price = z; shares = pos (up l.shares); delta = l.delta }) (whole l.price 0 10000000 b.0)
      ∙ ap (λ z. record { key = l.key; price = l.price; shares = z; delta = l.delta }) (whole l.shares 1 99999 s.0) in
      ap line_fits same ∙ e

  pub series_row_none : None ≡ series_of l array → line_fits l ≡ false
  series_row_none e = none_if (line_fits l) (listed_row l array) e

  module _ (row : Series) (made : Some row ≡ series_of l array) where
    pub series_row_is : (line_fits l ≡ true) × (row ≡ listed_row l array)
    series_row_is = some_if (line_fits l) (listed_row l array) row made

    pub series_row_fits : values_fit array ≡ true → series_fits row ≡ true
    series_row_fits v = rw series_row_is.1 (and_from (line_fits (line_of (listed_row l array))) (values_fit array) (line_again series_row_is.0) v)
