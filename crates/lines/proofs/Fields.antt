-- Fields one after another, each cut off the front.
use Rattle.std.proofs.Common.{◌≡◌, ℕ, List, ◌∷◌, ◌++◌, length, sym, ap, ◌∙◌}
use Rattle.lines.specs.Columns.{Is, Isnt}
use Rattle.lines.specs.Fields.{one, Front, Alien, plain_field}

-- bytes of a width, read as a value of a form of that width
module _ {A : Type 0} (W : A → List ℕ) (F : A → Type 0) (w : ℕ) (wide : (a : A) → F a → length (W a) ≡ w) {s : List ℕ} where
  pub front_isnt : {f t : List ℕ} → Front (plain_field w) s f t → Isnt W F f → Alien (one A W F) s
  front_isnt p q = record { none = λ b u g e. q b g (sym (p.only (W b) u (wide b g) e).0) }

  pub front_is : {f t : List ℕ} {a : A} → Front (plain_field w) s f t → Is W F f a → Front (one A W F) s a t
  front_is {f} {t} p q = record {
    fit = q.fit;
    reads = p.reads ∙ ap (λ (z : List ℕ). 32 ∷ (z ++ t)) q.reads;
    only = λ b u g e. let r = p.only (W b) u (wide b g) e in (q.only b g (sym r.0), r.1);
  }
