-- What a desk works on, as plain values.
use Rattle.book.specs.View.{view as book_view}
use Rattle.sheet.specs.View.{view as draft_view}
use Rattle.desk.specs.declared.book_desk.BookDesk.{BookDesk}
use Rattle.desk.specs.declared.sheet_desk.SheetDesk.{SheetDesk}
use Rattle.desk.specs.Dealings.{Dealing}
use Rattle.desk.specs.Listings.{Writing}

abbrev pub writing : SheetDesk → Writing
writing d = record { draft = draft_view d.draft; waits = d.pending }

abbrev pub dealing : BookDesk → Dealing
dealing d = record { book = book_view d.book; rates = d.ledger.rates.by_number; records = d.ledger.records }
