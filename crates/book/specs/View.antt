-- What a book stands for.
use Rattle.std.specs.Prelude.{length}
use Rattle.register.specs.Held.{held, lent}
use Rattle.book.specs.declared.books.Book.{Book}
use Rattle.book.specs.State.{State}

abbrev pub view : Book → State
view b = record {
  rates = b.sheet.rates.by_number;
  classes = b.sheet.classes.now;
  series = b.sheet.series.now;
  accounts = held b.accounts;
  counts = b.counts.slots.now;
  room = length (lent b.accounts);
}
