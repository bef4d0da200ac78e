use Rattle.std.proofs.Common.{length, sym, ap, ◌∙◌, subst}
use Rattle.account.specs.Pieces.{Small}
use Rattle.account.proofs.Marks.{length_margined, counts_small}
use Rattle.account.proofs.rule.tally.Goals as goal

pub invariant_of-margined : goal.invariant_of-margined
invariant_of-margined g c =
    let account = c.args.account.now in
    let after = c.margin_counts.ensures.after in
    record {
      each = ap length after ∙ length_margined account.basis account.longs.now account.shorts.now (account.each_long ∙ sym account.each_short) ∙ account.each_long;
      small = subst Small (sym after) (counts_small account.basis account.longs.now account.shorts.now account.held);
    }
