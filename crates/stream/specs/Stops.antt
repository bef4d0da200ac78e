-- What a stop says, where its sentence is fixed.
use Rattle.std.specs.Prelude.{ℕ, List, codes, Some, None, Option}
use Rattle.stream.specs.declared.reading.Stop.{Stop}
use Rattle.stream.specs.declared.reading.Stop.TheVariants.{Refused, Unread, Unwritten}

-- the sentence of what could not be read or written; a refused line's is its fault's
abbrev pub told : Stop → Option (List ℕ)
told (Refused fault) = None
told Unread = Some (codes "standard input cannot be read.")
told Unwritten = Some (codes "standard output cannot be written.")
