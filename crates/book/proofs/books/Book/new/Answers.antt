use Rattle.std.proofs.Common.{refl}
use Rattle.book.proofs.Laws.{book_law}
use Rattle.book.proofs.books.Book.new.Goals as goal

pub returns-clause-law : goal.returns-clause-law
returns-clause-law c = book_law c.args.sheet _ c.new.ensures.empty c.args.sheet.whole.few_series (record { rates = refl; classes = refl; series = refl })
