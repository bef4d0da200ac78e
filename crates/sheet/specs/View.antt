-- What a draft stands for.
use Rattle.std.specs.Prelude.{length}
use Rattle.register.specs.Held.{held, lent}
use Rattle.sheet.specs.declared.drafts.DraftSheet.{DraftSheet}
use Rattle.sheet.specs.State.{State}

-- the rates, the rows that are written, and the length of the memory lent for them
abbrev pub view : DraftSheet → State
view d = record {
  rates = d.rates.by_number;
  classes = held d.classes;
  series = held d.series;
  class_room = length (lent d.classes);
  series_room = length (lent d.series);
}
