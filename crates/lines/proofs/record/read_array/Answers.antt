use Rattle.std.proofs.Common.{◌∙◌, arith, w64, SFits, rules}
use Rattle.std.proofs.lemmas.Int.{to_z-of_z}
use Rattle.std.proofs.lemmas.List.{take_more_set, length-set, length-take-le, take_all}
use Rattle.lines.proofs.Rows.{rows_more, rows_alien, rows_longer, rows_are}
use Rattle.lines.proofs.record.read_array.Goals as goal

pub loop-value-preserved : goal.loop-value-preserved
loop-value-preserved c =
    let f : SFits w64 c.in_ok-value.field-0-0 = search rules in
    simp to_z-of_z (record {
      read = rw (take_more_set c.loop-value.value-items c.loop-value.value-index c.in_ok-value.field-0-0 (omega arith)) (rows_more c.loop-value.invariant.read c.in_ok-value.ensures);
      eight = length-set c.loop-value.value-items c.loop-value.value-index c.in_ok-value.field-0-0 ∙ c.loop-value.invariant.eight;
    })

pub returns-in_err-value : goal.returns-in_err-value
returns-in_err-value c = rw c.from_residual.ensures (rows_alien c.loop-value.invariant.read (omega (arith, length-take-le c.loop-value.value-index c.loop-value.value-items (omega arith))) c.in_err-value.ensures)

pub returns-in_err-ended : goal.returns-in_err-ended
returns-in_err-ended c =
    let read = rw (take_all c.loop-value.value-index c.loop-value.value-items (omega arith)) at c.loop-value.invariant.read in
    rw c.from_residual-in_err-ended.ensures (rows_longer read c.loop-value.invariant.eight c.in_err-ended.ensures)

pub returns : goal.returns
returns c =
    let read = rw (take_all c.loop-value.value-index c.loop-value.value-items (omega arith)) at c.loop-value.invariant.read in
    rows_are read c.loop-value.invariant.eight c.in_ok-ended.ensures
