use Rattle.std.proofs.Common.{rules, ap, ◌∙◌}
use Rattle.desk.proofs.Halves.{whole}
use Rattle.desk.proofs.sheet_desk.ended.Goals as goal
use borrow.Rule.Slice.PartMut.{put_mid}

pub returns : goal.returns
returns c = ap (put_mid 8 8 c.args.array) c.copy_from_slice.ensures.after ∙ whole c.args.array c.args.values.now (search rules)
