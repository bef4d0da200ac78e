-- What eight values do to the array that is awaited.
use Rattle.std.proofs.Common.{◌≡◌, List, ◌++◌, [], length, take, drop, ℤ, Some, None, Option, refl, ap, ◌∙◌, arith}
use Rattle.std.proofs.lemmas.List.{drop_all, append-nil, length-drop}
use Rattle.terms.specs.declared.faults.Fault.{Fault}
use Rattle.sheet.specs.State.{State, Step, Listed}
use Rattle.lines.specs.declared.reader.Section.{Section}
use Rattle.lines.specs.declared.reader.Section.TheVariants.{Sheet, FirstArray, SecondArray, Book}
use Rattle.desk.specs.declared.sheet_desk.Pending.{Pending}
use Rattle.desk.specs.Halves.{begun, ended}
use Rattle.desk.specs.Listings.{Valued}
use borrow.Rule.Slice.PartMut.{put_mid, post_of}

-- eight values written behind the first eight of sixteen are the second half
pub whole : (a zs : List ℤ) → length a ≡ 16 → put_mid 8 8 a zs ≡ take 8 a ++ zs
whole a zs e =
    let rest : post_of 8 8 a ≡ [] = drop_all 8 (drop 8 a) (omega (arith, length-drop 8 a)) in
    ap (λ l. take 8 a ++ (zs ++ l)) rest ∙ ap (λ l. take 8 a ++ l) (append-nil zs)

module _ (zs : List ℤ) (s : State) (w : Pending) where
  pub first_half : {f : Option Fault} {section : Section} {p : Option Pending} {a : List ℤ} → None ≡ f → p ≡ Some w → section ≡ FirstArray → a ≡ begun w.array zs → Valued f section zs s p None s (Some (record { listing = w.listing; array = a }))
  first_half e1 e2 e3 e4 = rw (← e1, e2, e3, e4) (refl, refl, refl)

  second_at : (section : Section) (o : Option Fault) (t : State) → (section ≡ FirstArray → ⊥) → Step s (Listed w.listing (ended w.array zs)) o t → Valued None section zs s (Some w) o t None
  second_at Sheet o t n step = (step, refl)
  second_at FirstArray o t n step = absurd (n refl)
  second_at SecondArray o t n step = (step, refl)
  second_at Book o t n step = (step, refl)

  pub second_half : {f : Option Fault} {section : Section} {p : Option Pending} {o : Option Fault} {t : State} {a : List ℤ} → None ≡ f → p ≡ Some w → (section ≡ FirstArray → ⊥) → a ≡ ended w.array zs →
      Step s (Listed w.listing a) o t → Valued f section zs s p o t None
  second_half {section = section} {o = o} {t = t} e1 e2 n ea step = rw (← e1, e2) (second_at section o t n (rw ea at step))
