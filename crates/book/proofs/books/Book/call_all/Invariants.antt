use Rattle.std.proofs.Common.{◌≡◌, take, drop}
use Rattle.book.specs.Events.{Run}
use Rattle.book.specs.Replays.{events_of}
use Rattle.book.specs.View.{view}
use Rattle.book.proofs.books.Book.call_all.Given as goal

abbrev pub invariant-loop-i : goal.invariant-loop-i
invariant-loop-i g l = record {
  run : Run (view l.fn.self) (events_of (g.C.Charge.meaning l.charge) (take l.i l.calls) l.answers) (view l.self);
  rest : drop l.i l.answers ≡ drop l.i l.fn.answers;
}
