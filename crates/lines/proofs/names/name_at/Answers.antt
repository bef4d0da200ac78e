use Rattle.lines.specs.Columns.{left, Spelled}
use Rattle.lines.proofs.Fields.{front_is, front_isnt}
use Rattle.lines.proofs.Trims.{wide}
use Rattle.lines.proofs.names.name_at.Goals as goal

pub returns-in_err-name_of : goal.returns-in_err-name_of
returns-in_err-name_of c = rw c.from_residual-in_err-name_of.ensures (front_isnt (left 20) Spelled 20 wide c.in_ok-field.ensures c.in_err-name_of.ensures)

pub returns : goal.returns
returns c = front_is (left 20) Spelled 20 wide c.in_ok-field.ensures c.in_ok-name_of.ensures
