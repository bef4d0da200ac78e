use Rattle.std.proofs.Common.{◌≡◌, false, is_some, refl, sym}
use Rattle.register.specs.Held.{held, lent}
use Rattle.register.specs.Rows.{place, sought}
use Rattle.register.proofs.Steps.{place_within, still_sorted, put_in_place}
use Rattle.register.proofs.Register.insert.Goals as goal

pub shift-requires-clause-place : goal.shift-requires-clause-place
shift-requires-clause-place g c =
    let s = c.args.self.now in
    let rank = g.R.Keyed.rank in
    let at : c.place_of-at.result ≡ place rank (rank c.args.row) (held s) = rw (c.place_of-at.ensures.value, c.as_slice.ensures.value, c.key-key.ensures.value) refl in
    place_within rank c.args.limit s.len _ (lent s) (lent s) c.args.row s.within at

pub invariant_of-self-clause-sorted : goal.invariant_of-self-clause-sorted
invariant_of-self-clause-sorted g c =
    let s = c.args.self.now in
    let rank = g.R.Keyed.rank in
    let at : c.place_of-at.result ≡ place rank (rank c.args.row) (held s) = rw (c.place_of-at.ensures.value, c.as_slice.ensures.value, c.key-key.ensures.value) refl in
    let free : is_some (sought rank (rank c.args.row) (held s)) ≡ false = rw (← c.key-key.ensures.value, ← c.find.ensures.answer) (sym c.if-is_some.ensures) in
    still_sorted rank c.args.limit s.len _ (lent s) c.shift.new.rows c.args.row s.within at free c.if-not-has_room.ensures.value c.shift.ensures.after s.sorted

pub returns-clause-entry : goal.returns-clause-entry
returns-clause-entry g c =
    let s = c.args.self.now in
    let rank = g.R.Keyed.rank in
    let at : c.place_of-at.result ≡ place rank (rank c.args.row) (held s) = rw (c.place_of-at.ensures.value, c.as_slice.ensures.value, c.key-key.ensures.value) refl in
    let free : is_some (sought rank (rank c.args.row) (held s)) ≡ false = rw (← c.key-key.ensures.value, ← c.find.ensures.answer) (sym c.if-is_some.ensures) in
    put_in_place rank c.args.limit s.len _ (lent s) c.shift.new.rows c.args.row s.within at free c.if-not-has_room.ensures.value c.shift.ensures.after
