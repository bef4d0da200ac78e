use Rattle.std.proofs.Common.{rules, arith}
use Rattle.sheet.proofs.Whole.{whole_with_rate}
use Rattle.sheet.proofs.drafts.DraftSheet.add_rate.Goals as goal

pub invariant_of-self : goal.invariant_of-self
invariant_of-self c = record { whole = search (rules, arith, whole_with_rate) }
