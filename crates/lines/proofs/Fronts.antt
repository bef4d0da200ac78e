-- Each field stands at the front of its own text.
use Rattle.std.proofs.Common.{◌≡◌, ℕ, ◌-◌, ◌≢◌, eqb, List, ◌∷◌, ◌++◌, length, take, drop, replicate, ℤ, Option, None, Some, refl, sym, ap, ◌∙◌, arith}
use Rattle.std.specs.Fmt.{signed_decimal}
use Rattle.std.proofs.lemmas.Fmt.{signed_decimal_injective}
use Rattle.std.proofs.lemmas.List.{length-append, length-replicate, take_at, drop_at}
use Rattle.std.proofs.lemmas.List.Folds.{prefix_len-replicate}
use Rattle.terms.specs.declared.codes.Code.{Code}
use Rattle.terms.specs.declared.keys.AskedKey.{AskedKey}
use Rattle.terms.specs.declared.words.Kind.{Kind}
use Rattle.terms.specs.declared.words.Basis.{Basis}
use Rattle.terms.specs.declared.words.Leg.{Leg}
use Rattle.terms.specs.declared.words.Side.{Side}
use Rattle.terms.specs.Codes.{lettered}
use Rattle.terms.specs.Words.{basis_letter, kind_letter, leg_letter, side_letter}
use Rattle.lines.specs.Columns.{Is, column, column_or_blank, left, Fits, FitsOrBlank, Spelled, Coded}
use Rattle.lines.specs.Fields.{one, Front, plain_field, number_field, number_or_blank_field, letter_field, code_field, name_field, key_field, Keyed}
use Rattle.lines.proofs.Blanks.{blanks}
use Rattle.lines.proofs.Fields.{front_is}
use Rattle.lines.proofs.Trims.{wide, in_left}
use Rattle.lines.proofs.Justified.{in_column, blank_read, some_read}

plain_front : (f t : List ℕ) → Front (plain_field (length f)) (32 ∷ (f ++ t)) f t
plain_front f t = record {
  fit = refl;
  reads = refl;
  only = λ b u g e.
      let q : f ++ t ≡ b ++ u = cc e in (
        sym (take_at b u (length f) g) ∙ ap (take (length f)) (sym q) ∙ take_at f t (length f) refl,
        sym (drop_at b u (length f) g) ∙ ap (drop (length f)) (sym q) ∙ drop_at f t (length f) refl,
      );
}

-- where a form has a width and tells its values apart
module _ {A : Type 0} (W : A → List ℕ) (F : A → Type 0) (w : ℕ) (wide : (a : A) → F a → length (W a) ≡ w) where
  front : (a : A) (t : List ℕ) → Is W F (W a) a → Front (one A W F) (32 ∷ (W a ++ t)) a t
  front a t q = front_is W F w wide (rw (wide a q.fit) at (plain_front (W a) t)) q

column_wide : (w : ℕ) (z : ℤ) → Fits w z → length (column w z) ≡ w
column_wide w z g = omega (arith, length-append (replicate (w - length (signed_decimal z)) 32) (signed_decimal z), length-replicate {A = ℕ} (w - length (signed_decimal z)) 32, g.1)

column_is : (w : ℕ) (z : ℤ) → Fits w z → Is (column w) (Fits w) (column w z) z
column_is w z g = record { fit = g; reads = refl; only = λ y h e. signed_decimal_injective y z h.0 g.0 (sym (digits y h e) ∙ digits z g refl) }
  where
    digits : (y : ℤ) → Fits w y → column w z ≡ column w y → drop (blanks (column w z)) (column w z) ≡ signed_decimal y
    digits y h e = in_column (column w z) y h.0 (rw (column_wide w z g) e)

or_blank_wide : (w : ℕ) (z : Option ℤ) → FitsOrBlank w z → length (column_or_blank w z) ≡ w
or_blank_wide w None g = length-replicate w 32
or_blank_wide w (Some z) g = column_wide w z g

or_blank_is : (w : ℕ) (z : Option ℤ) → FitsOrBlank w z → Is (column_or_blank w) (FitsOrBlank w) (column_or_blank w z) z
or_blank_is w None g = rw (or_blank_wide w None g) at (blank_read (replicate w 32) (prefix_len-replicate (λ b. eqb b 32) w 32 refl ∙ sym (length-replicate w 32)))
or_blank_is w (Some z) g = rw (column_wide w z g) at (some_read (column w z) some (Some z) (rw (column_wide w z g) (column_is w z g)))
  where
    some : blanks (column w z) ≢ length (column w z)
    some q = let none : Some z ≡ None = (rw (column_wide w z g) at (blank_read (column w z) q)).only (Some z) g refl in grind arith

pub number_front : (w : ℕ) (z : ℤ) (t : List ℕ) → Fits w z → Front (number_field w) (32 ∷ (column w z ++ t)) z t
number_front w z t g = front (column w) (Fits w) w (column_wide w) z t (column_is w z g)

pub or_blank_front : (w : ℕ) (z : Option ℤ) (t : List ℕ) → FitsOrBlank w z → Front (number_or_blank_field w) (32 ∷ (column_or_blank w z ++ t)) z t
or_blank_front w z t g = front (column_or_blank w) (FitsOrBlank w) w (or_blank_wide w) z t (or_blank_is w z g)

pub name_front : (x t : List ℕ) → Spelled x → Front name_field (32 ∷ (left 20 x ++ t)) x t
name_front x t g = front (left 20) Spelled 20 wide x t (record { fit = g; reads = refl; only = λ y h e. sym (in_left (left 20 x) y h e) ∙ in_left (left 20 x) x g refl })

pub code_front : (c : Code) (t : List ℕ) → Coded c → Front code_field (32 ∷ (lettered c ++ t)) c t
code_front c t g = record { fit = g; reads = refl; only = λ b u h e. grind arith }

pub kind_front : (k : Kind) (t : List ℕ) → Front (letter_field kind_letter) (32 ∷ kind_letter k ∷ t) k t
kind_front k t = record { fit = tt; reads = refl; only = λ b u h e. grind arith }

pub basis_front : (k : Basis) (t : List ℕ) → Front (letter_field basis_letter) (32 ∷ basis_letter k ∷ t) k t
basis_front k t = record { fit = tt; reads = refl; only = λ b u h e. grind arith }

pub leg_front : (k : Leg) (t : List ℕ) → Front (letter_field leg_letter) (32 ∷ leg_letter k ∷ t) k t
leg_front k t = record { fit = tt; reads = refl; only = λ b u h e. grind arith }

pub side_front : (k : Side) (t : List ℕ) → Front (letter_field side_letter) (32 ∷ side_letter k ∷ t) k t
side_front k t = record { fit = tt; reads = refl; only = λ b u h e. grind arith }

pub key_front : (k : AskedKey) (t : List ℕ) → Keyed k → Front key_field (32 ∷ key_field.text k t) k t
key_front k t g =
    let strike = number_front 8 k.strike t g.2 in
    let kind = kind_front k.kind (32 ∷ (column 8 k.strike ++ t)) in
    let month = number_front 6 k.month (32 ∷ kind_letter k.kind ∷ 32 ∷ (column 8 k.strike ++ t)) g.1 in
    let class = code_front k.class (32 ∷ (column 6 k.month ++ 32 ∷ kind_letter k.kind ∷ 32 ∷ (column 8 k.strike ++ t))) g.0 in
    record { fit = g; reads = refl; only = λ b u h e. grind arith }
