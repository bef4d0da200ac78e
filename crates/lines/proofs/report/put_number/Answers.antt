use Rattle.std.proofs.Common.{◌≡◌, ◌<◌, replicate, arith, rules}
use Rattle.std.proofs.lemmas.List.{length-set}
use Rattle.lines.proofs.Digits.{digit_more, more_columns, fewer_digits, last_put}
use Rattle.lines.proofs.report.put_number.Goals as goal

pub loop-left-preserved : goal.loop-left-preserved
loop-left-preserved c =
    let before : 0 < c.loop-left.i = more_columns _ _ c.loop-left-test.true c.loop-left.invariant.1 in (
      digit_more _ _ _ _ _ (omega arith) c.loop-left-test.true (omega arith) c.loop-left.invariant.2 c.loop-left.invariant.0,
      fewer_digits _ _ _ (omega arith) c.loop-left.invariant.1,
      simp length-set (omega arith),
    )

pub returns : goal.returns
returns c =
    let blanks : c.fill.new.self ≡ replicate c.loop-left.i 32 = search rules in
    record { value = rw blanks (last_put _ _ _ _ _ c.loop-left-test.false c.loop-left.invariant.2 c.loop-left.auto.out c.loop-left.invariant.0) }
