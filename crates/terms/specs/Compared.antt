-- What the derived comparisons of keys say: keys compare as the numbers by which they are ranked, and names that are equal are the same.
use Rattle.std.specs.Prelude.{◌≡◌, Decides, refl}
use Rattle.std.proofs.Common.{ap}
use Rattle.std.specs.Cmp.Lexicographic.{bytes_decides}
use Rattle.std.specs.declared.cmp.Ordering.{Ordering}
use Rattle.std.specs.declared.cmp.Ordering.TheVariants.{Less, Equal, Greater}
use Rattle.std.specs.Ordering.{ordering_then, nat_cmp}
use Rattle.terms.specs.contracts.codes.CodeOrd.TheImpl as code_cmp
use Rattle.terms.specs.contracts.keys.SeriesKeyOrd.TheImpl as key_cmp
use Rattle.terms.specs.contracts.names.NameOrd.TheImpl as name_cmp
use Rattle.terms.specs.contracts.names.NamePartialEq.TheImpl as name_eq
use Rattle.terms.specs.contracts.words.KindOrd.TheImpl as kind_cmp
use Rattle.terms.specs.declared.codes.Code.{Code}
use Rattle.terms.specs.declared.keys.SeriesKey.{SeriesKey}
use Rattle.terms.specs.declared.names.Name.{Name}
use Rattle.terms.specs.declared.words.Kind.{Kind}
use Rattle.terms.specs.declared.words.Kind.TheVariants.{Call, Put}
use Rattle.terms.specs.Codes.{lettered}
use Rattle.terms.specs.Keys.{figured}
use Rattle.terms.specs.Names.{spelled}
use Rattle.terms.specs.Order.{order}
use Rattle.terms.specs.Words.{kind_number}

then_end : (o : Ordering) → ordering_then o Equal ≡ o
then_end Less = refl
then_end Equal = refl
then_end Greater = refl

then_assoc : (o p q : Ordering) → ordering_then (ordering_then o p) q ≡ ordering_then o (ordering_then p q)
then_assoc Less p q = refl
then_assoc Equal p q = refl
then_assoc Greater p q = refl

pub code_order : (a b : Code) → (code_cmp.ghosts).cmp a b ≡ order (lettered a) (lettered b)
code_order a b = simp then_end

pub kind_order : (a b : Kind) → (kind_cmp.ghosts).cmp a b ≡ nat_cmp (kind_number a) (kind_number b)
kind_order Call Call = refl
kind_order Call Put = refl
kind_order Put Call = refl
kind_order Put Put = refl

pub key_order : (a b : SeriesKey) → (key_cmp.ghosts).cmp a b ≡ order (figured a) (figured b)
key_order a b = rw (kind_order a.kind b.kind) (simp (then_assoc, then_end))

pub name_order : (a b : Name) → (name_cmp.ghosts).cmp a b ≡ order (spelled a) (spelled b)
name_order a b = refl

-- two names are equal exactly where they are the same
pub name_decides : (a b : Name) → Decides ((name_eq.ghosts).eq a b) (a ≡ b)
name_decides a b = let d = bytes_decides a.text b.text in (λ e. ap (λ t. record { text = t }) (d.0 e), λ e. d.1 (ap spelled e))
