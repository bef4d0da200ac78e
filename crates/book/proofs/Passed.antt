-- What an accepted use passed.
use Rattle.std.proofs.Common.{◌≡◌, ℕ, ◌+◌, ◌*◌, ◌≤◌, Bool, true, false, not, ltb, List, length, is_some, Some, None, Option, ℤ, refl}
use Rattle.std.specs.Option.{option_or}
use Rattle.std.proofs.lemmas.Bool.{leb-true, and_parts}
use Rattle.terms.specs.declared.faults.Fault.{Fault}
use Rattle.terms.specs.declared.keys.AskedKey.{AskedKey}
use Rattle.terms.specs.declared.keys.SeriesKey.{SeriesKey}
use Rattle.terms.specs.declared.names.Name.{Name}
use Rattle.terms.specs.declared.words.Basis.{Basis}
use Rattle.terms.specs.declared.words.Side.{Side}
use Rattle.terms.specs.Faults.{unless}
use Rattle.terms.specs.Names.{named}
use Rattle.book.specs.Limits.{name_of, asked, fits, same_account}
use Rattle.book.specs.Found.{slot, listed, there, source_absent, outside, twice, deal_fault, move_fault}
use Rattle.book.specs.State.{State}
use Rattle.book.specs.Uses.{Opening, fault_of, roomy}
use Rattle.book.proofs.Places.{Stand}

pub passed_test : (b : Bool) (e : Fault) (o : Option Fault) → None ≡ unless b e o → (b ≡ true) × (None ≡ o)
passed_test true e o h = (refl, h)
passed_test false e o h = cc

pub passed_first : (a b : Option Fault) → None ≡ option_or a b → (None ≡ a) × (None ≡ b)
passed_first None b h = (refl, h)
passed_first (Some e) b h = cc

pub the_number : (o : Option ℕ) → is_some o ≡ true → (i : ℕ) × (o ≡ Some i)
the_number (Some i) h = (i, refl)
the_number None h = cc

stand_there : (s : State) (x : Name) (q : SeriesKey) → there s x q ≡ true → Stand s.accounts s.series x q
stand_there s x q h =
    let parts = and_parts (is_some (slot s x)) (is_some (listed s q)) h in
    let a = the_number (slot s x) parts.0 in
    let b = the_number (listed s q) parts.1 in
    record { number = a.0; place = b.0; account = a.1; listed = b.1 }

-- a dealing on one account that meets no fault of the rows 3 and 5 stands somewhere
pub deal_stands : (s : State) (t : List ℕ) (k : AskedKey) (n : ℤ) → None ≡ deal_fault s t k n → Stand s.accounts s.series (name_of t) (asked k)
deal_stands s t k n h =
    let inside = passed_test (fits t k n) outside _ h in
    stand_there s (name_of t) (asked k) (passed_test (there s (name_of t) (asked k)) _ None inside.1).0

-- an account that is opened has room for its counts
pub space_passed : (s : State) (t : List ℕ) (b : Basis) (d : Side) → None ≡ fault_of s (Opening t b d) → length s.accounts * 256 + 256 ≤ length s.counts
space_passed s t b d h =
    let named = passed_test _ _ _ h in
    let new = passed_test _ _ _ named.1 in
    let room = passed_test (roomy s) _ None new.1 in
    let two = and_parts (ltb (length s.accounts) 32) _ room.0 in
    leb-true (length s.accounts * 256 + 256) (length s.counts) (and_parts (ltb (length s.accounts) s.room) _ two.1).1

-- a move that meets none of the rows 3 and 5: both accounts stand somewhere, with the series
pub move_stands : (s : State) (a b : List ℕ) (k : AskedKey) (n : ℤ) → None ≡ move_fault s a b k n → Stand s.accounts s.series (name_of a) (asked k) × Stand s.accounts s.series (name_of b) (asked k)
move_stands s a b k n h =
    let apart = passed_test (not (same_account a b)) (twice a) _ h in
    let inside = passed_test (fits a k n) outside _ apart.1 in
    let name = passed_test (is_some (named b)) outside _ inside.1 in
    let source = passed_test (is_some (slot s (name_of a))) (source_absent s (name_of a) (asked k)) _ name.1 in
    let from = the_number (slot s (name_of a)) source.0 in
    let to = stand_there s (name_of b) (asked k) (passed_test (there s (name_of b) (asked k)) _ None source.1).0 in
    (record { number = from.0; place = to.place; account = from.1; listed = to.listed }, to)
