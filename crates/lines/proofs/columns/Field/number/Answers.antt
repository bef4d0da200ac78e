use Rattle.std.proofs.lemmas.List.{take_rest}
use Rattle.lines.proofs.Justified.{number_read}
use Rattle.lines.proofs.columns.Field.number.Goals as goal

pub returns : goal.returns
returns c = number_read c.args.self.bytes.now c.signed.result (rw (take_rest, c.blanks.ensures.value) at c.signed.ensures)
