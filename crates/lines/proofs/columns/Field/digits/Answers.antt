use Rattle.std.proofs.Common.{◌≡◌, ◌<◌, length, get_or, arith}
use Rattle.std.specs.Int.{IsInRange}
use Rattle.std.proofs.lemmas.Bool.Decides.{nat_tests}
use Rattle.lines.proofs.Decimal.{some, no_zero, figure, below, more_figures, more_value, whole}
use Rattle.lines.proofs.columns.Field.digits.Goals as goal

pub returns-in-empty : goal.returns-in-empty
returns-in-empty c n h e = let l : 0 < length c.args.self.bytes.now = rw e (some n h) in omega arith

pub returns-in-empty-2 : goal.returns-in-empty-2
returns-in-empty-2 c n h e = let z : get_or c.args.self.bytes.now 0 0 ≡ 48 → length c.args.self.bytes.now < 2 = rw e (no_zero n h) in omega arith

pub returns-then-not-is_ascii_digit : goal.returns-then-not-is_ascii_digit
returns-then-not-is_ascii_digit c n h e =
    let r : IsInRange 48 57 (get_or c.args.self.bytes.now c.loop-c.c-index 0) = rw e (figure n c.loop-c.c-index h (rw e at c.loop-c-test.true)) in
    grind (arith, nat_tests)

pub overflow_mul-n : goal.overflow_mul-n
overflow_mul-n c = omega (arith, below c.args.self.bytes.now c.loop-c.c-index c.loop-c.invariant.figures 12)

pub overflow_add-n : goal.overflow_add-n
overflow_add-n c = omega (arith, below c.args.self.bytes.now c.loop-c.c-index c.loop-c.invariant.figures 12)

pub loop-c-preserved : goal.loop-c-preserved
loop-c-preserved c =
    let r : IsInRange 48 57 (get_or c.args.self.bytes.now c.loop-c.c-index 0) = grind (arith, nat_tests) in
    record {
      figures = more_figures c.args.self.bytes.now c.loop-c.c-index c.loop-c.invariant.figures c.loop-c-test.true r;
      value = rw (c.from.ensures, c.loop-c.invariant.value) (more_value c.args.self.bytes.now c.loop-c.c-index c.loop-c.invariant.figures c.loop-c-test.true r);
    }

pub returns : goal.returns
returns c =
    let b = below c.args.self.bytes.now c.loop-c.c-index c.loop-c.invariant.figures 13 (omega arith) (omega arith) in
    let w = whole c.args.self.bytes.now c.loop-c.c-index c.loop-c.invariant.figures c.loop-c-test.false (grind arith) (λ z. grind arith) (omega arith) in
    rw c.loop-c.invariant.value (w, b)
