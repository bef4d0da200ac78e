use Rattle.std.proofs.Common.{arith, ap, ◌∙◌}
use Rattle.std.specs.Fmt.{decimal}
use Rattle.std.proofs.lemmas.Int.{ints}
use Rattle.lines.proofs.Numerals.{minus_isnt, minus_zero, minus_is, plain_is}
use Rattle.lines.proofs.columns.Field.signed.Goals as goal

pub returns-in_err-n-in-45 : goal.returns-in_err-n-in-45
returns-in_err-n-in-45 c = rw c.from_residual.ensures (minus_isnt c.args.self.bytes.now (omega arith) (omega arith) c.in_err-n-in-45.ensures)

pub returns-in-0 : goal.returns-in-0
returns-in-0 c = let d = c.in_ok-n-in-45.ensures in minus_zero c.args.self.bytes.now (omega arith) (omega arith) (d.0 ∙ ap decimal c.in-0.is)

pub returns-in_default-2 : goal.returns-in_default-2
returns-in_default-2 c = let d = c.in_ok-n-in-45.ensures in minus_is c.args.self.bytes.now (omega arith) (omega arith) c.in_ok-n-in-45.n _ d.0 d.1 (λ z. omega arith) (omega (arith, ints))

pub returns-in_ok-digits-in_default : goal.returns-in_ok-digits-in_default
returns-in_ok-digits-in_default c = let d = c.in_ok-digits-in_default.ensures in plain_is _ c.in_ok-digits-in_default.field-0 _ d.0 d.1 (omega (arith, ints))
