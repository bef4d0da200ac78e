-- A number at the right of its field, or a field that is all blank.
use Rattle.std.proofs.Common.{◌≡◌, ℕ, ◌-◌, ◌≢◌, eqb, List, length, drop, replicate, ℤ, Option, None, Some, refl, sym, ap, ◌∙◌, arith, option_map}
use Rattle.std.specs.Fmt.{signed_decimal}
use Rattle.std.proofs.lemmas.List.{length-replicate, length-drop, drop_at, drop_all, append-nil}
use Rattle.std.proofs.lemmas.List.Folds.{prefix_len-replicate}
use Rattle.std.proofs.lemmas.List.Sums.{prefix_len-le-length}
use Rattle.lines.specs.Columns.{right, column, column_or_blank, Is, Isnt, Exactly, Within, Fits, FitsOrBlank}
use Rattle.lines.proofs.Blanks.{blanks, blanks-drop, blanks-append}
use Rattle.lines.proofs.Numerals.{some, no_blank}

abbrev text_of : List ℕ → List ℕ
text_of f = drop (blanks f) f

at_right : (f : List ℕ) → f ≡ right (length f) (text_of f)
at_right f = let m : length f - length (text_of f) ≡ blanks f = omega (arith, length-drop (blanks f) f, prefix_len-le-length (λ b. eqb b 32) f) in rw m (blanks-drop f)

pub in_column : (f : List ℕ) (z : ℤ) → Within z → f ≡ column (length f) z → text_of f ≡ signed_decimal z
in_column f z h e =
    let n = length f - length (signed_decimal z) in
    ap text_of e ∙ drop_at (replicate n 32) (signed_decimal z) (blanks (column (length f) z)) (length-replicate n 32 ∙ sym (blanks-append n (signed_decimal z) (some z h) (no_blank z h)))

pub number_read : (f : List ℕ) (r : Option ℤ) → Exactly signed_decimal Within (text_of f) r → Exactly (column (length f)) (Fits (length f)) f r
number_read f None h = λ z g e. h z g.0 (in_column f z g.0 e)
number_read f (Some z) h = record {
  fit = (h.fit, omega (arith, length-drop (blanks f) f, ap length h.reads));
  reads = at_right f ∙ ap (right (length f)) h.reads;
  only = λ b g e. h.only b g.0 (in_column f b g.0 e);
}

pub blank_read : (f : List ℕ) → blanks f ≡ length f → Is (column_or_blank (length f)) (FitsOrBlank (length f)) f None
blank_read f l = record { fit = tt; reads = blanks-drop f ∙ rw (l, drop_all (length f) f (omega arith)) (append-nil _); only = only }
  where
    only : (b : Option ℤ) → FitsOrBlank (length f) b → f ≡ column_or_blank (length f) b → b ≡ None
    only None g e = refl
    only (Some z) g e = absurd (omega (arith, length-drop (blanks f) f, ap length (in_column f z g.0 e), some z g.0))

-- where not all is blank, the values are the numbers
pub some_read : (f : List ℕ) → blanks f ≢ length f → (r : Option ℤ) → Exactly (column (length f)) (Fits (length f)) f r → Exactly (column_or_blank (length f)) (FitsOrBlank (length f)) f (option_map Some r)
some_read f n = read
  where
    none : f ≢ replicate (length f) 32
    none e = n (ap blanks e ∙ prefix_len-replicate (λ b. eqb b 32) (length f) 32 refl)

    read : (r : Option ℤ) → Exactly (column (length f)) (Fits (length f)) f r → Exactly (column_or_blank (length f)) (FitsOrBlank (length f)) f (option_map Some r)
    read None h = isnt
      where
        isnt : Isnt (column_or_blank (length f)) (FitsOrBlank (length f)) f
        isnt None g e = none e
        isnt (Some z) g e = h z g e
    read (Some z) h = record { fit = h.fit; reads = h.reads; only = only }
      where
        only : (b : Option ℤ) → FitsOrBlank (length f) b → f ≡ column_or_blank (length f) b → b ≡ Some z
        only None g e = absurd (none e)
        only (Some y) g e = ap Some (h.only y g e)
