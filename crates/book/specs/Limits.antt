-- What a use names, and its limits.
use Rattle.std.specs.Prelude.{◌≡◌, ℕ, Bool, ◌&&◌, List, [], ℤ, is_some}
use borrow.Author.Differences.{up}
use Rattle.std.specs.Option.{unwrap_or}
use Rattle.std.specs.Ordering.{is_eq}
use Rattle.terms.specs.declared.words.Kind.TheVariants.{Call}
use Rattle.terms.specs.declared.names.Name.{Name}
use Rattle.terms.specs.declared.keys.AskedKey.{AskedKey}
use Rattle.terms.specs.declared.keys.SeriesKey.{SeriesKey}
use Rattle.terms.specs.Keys.{key_of}
use Rattle.terms.specs.Limits.{between_limits}
use Rattle.terms.specs.Names.{named, spelled}
use Rattle.terms.specs.Order.{order}
use Rattle.book.specs.declared.dealings.Dealing.{Dealing}

-- the name that a text spells, and the key that is asked for
abbrev pub name_of : List ℕ → Name
name_of t = unwrap_or (named t) (record { text = [] })

abbrev pub asked : AskedKey → SeriesKey
asked k = unwrap_or (key_of k) (record { class = k.class; month = 0; kind = Call; strike = 0 })

-- A use takes 1 to 100,000 contracts.
abbrev pub contracts_fit : ℤ → Bool
contracts_fit n = between_limits n 1 100000

-- Name, key and contracts are within their limits.
abbrev pub fits : List ℕ → AskedKey → ℤ → Bool
fits t k n = is_some (named t) && (is_some (key_of k) && contracts_fit n)

-- Two texts name one account.
abbrev pub same_account : List ℕ → List ℕ → Bool
same_account a b = is_some (named a) && (is_some (named b) && is_eq (order (spelled (name_of a)) (spelled (name_of b))))

-- The dealing is the one that is named.
pub record IsNamed (t : List ℕ) (k : AskedKey) (n : ℤ) (d : Dealing) : Type 0 where
  pub name : d.name ≡ name_of t
  pub key : d.key ≡ asked k
  pub amount : d.contracts ≡ up n
