use Rattle.std.proofs.Common.{rules}
use Rattle.std.proofs.lemmas.Slice.{overwrites}
use Rattle.book.proofs.counts.Counts.clear_slot.Goals as goal

pub returns : goal.returns
returns c = search (rules, overwrites)
