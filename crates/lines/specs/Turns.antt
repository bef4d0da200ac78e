-- The turn of each kind of line: what may come in a section, and the section that it leads to.
use Rattle.std.specs.Prelude.{ℕ, ◌+◌, min, Some, None, Option}
use Rattle.lines.specs.declared.reader.Section.{Section}
use Rattle.lines.specs.declared.reader.Section.TheVariants.{Sheet, FirstArray, SecondArray, Book}
use Rattle.lines.specs.declared.record.Record.{Record}
use Rattle.lines.specs.declared.record.Record.TheVariants.{Class, Series, Array, Rate, End, Account, Post, CloseOut, Move, Deposit}

-- the part of a file that a line belongs to: C and X, S, R, E, and the lines of the book
pub data Part : Type 0 where
  of_sheet : Part
  of_series : Part
  of_array : Part
  of_end : Part
  of_book : Part

abbrev pub part : Record → Part
part (Class c k s m) = of_sheet
part (Rate c r) = of_sheet
part (Series k p n d) = of_series
part (Array zs) = of_array
part End = of_end
part (Account t b s) = of_book
part (Post t k l n) = of_book
part (CloseOut t k n) = of_book
part (Move t u k l n) = of_book
part (Deposit s c z) = of_book

-- on the sheet C, S, X and E are due: S leads to its arrays, E to the book
abbrev pub on_sheet : Part → Option Section
on_sheet of_sheet = Some Sheet
on_sheet of_series = Some FirstArray
on_sheet of_array = None
on_sheet of_end = Some Book
on_sheet of_book = None

-- after S only R is due, which leads to a section
abbrev pub on_array : Section → Part → Option Section
on_array next of_sheet = None
on_array next of_series = None
on_array next of_array = Some next
on_array next of_end = None
on_array next of_book = None

-- in the book A, P, Q, M and D are due
abbrev pub on_book : Part → Option Section
on_book of_sheet = None
on_book of_series = None
on_book of_array = None
on_book of_end = None
on_book of_book = Some Book

-- a series is followed by two arrays, and then by the sheet again
abbrev pub turn : Section → Record → Option Section
turn Sheet r = on_sheet (part r)
turn FirstArray r = on_array SecondArray (part r)
turn SecondArray r = on_array Sheet (part r)
turn Book r = on_book (part r)

-- lines are counted from 1; the count stops at the last that a report can show
abbrev pub counted : ℕ → ℕ
counted n = min (n + 1) 9999999
