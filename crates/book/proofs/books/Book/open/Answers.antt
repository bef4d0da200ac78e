-- The new account has the next opening number, and its counts are 0.
use Rattle.std.proofs.Common.{length, arith}
use Rattle.register.specs.Held.{held}
use Rattle.book.proofs.Cleared.{bounded_open}
use Rattle.book.proofs.Slots.{one_more, numbered_more, each_more}
use Rattle.book.proofs.books.Book.open.Goals as goal

pub invariant_of-self-2-clause-accounts_numbered : goal.invariant_of-self-2-clause-accounts_numbered
invariant_of-self-2-clause-accounts_numbered c =
    numbered_more c.insert.ensures.entry c.in_ok-map_err.ensures.variant c.len-slot.ensures.value c.args.self.now.accounts_numbered

pub invariant_of-self-2-clause-each_number : goal.invariant_of-self-2-clause-each_number
invariant_of-self-2-clause-each_number c =
    each_more c.insert.ensures.entry c.in_ok-map_err.ensures.variant c.len-slot.ensures.value c.args.self.now.each_number

pub invariant_of-self-2-clause-bounded : goal.invariant_of-self-2-clause-bounded
invariant_of-self-2-clause-bounded c =
    let s = c.args.self.now in
    let a = c.len-slot.result in
    let next = one_more c.insert.result (length (held s.accounts)) c.in_ok-map_err.ensures.variant in
    bounded_open a (length (held c.insert.new.self)) s.counts.slots.now c.clear_slot.new.self.slots.now c.clear_slot.ensures.after (omega (arith, c.insert.ensures.entry.count, next, c.len-slot.ensures.value)) (omega (arith, c.len.ensures.value))
    (λ k l. s.bounded k (omega (arith, c.len-slot.ensures.value)))
