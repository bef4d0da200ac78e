-- What a reader of lines has left, where the bytes of its input are known.
use Rattle.std.specs.Prelude.{◌≡◌, ◌≢◌, ℕ, List, [], length, drop, slice_range, Option, Some, IfSome, MatchOption, Result, IfOk, MatchResult}
use Rattle.std.specs.Borrow.{Bor}
use Rattle.std.specs.Io.KnownBytes.{Keeps, prepend_known}
use Rattle.stream.specs.Lines.{first_line}
use Rattle.stream.specs.declared.lines.LineReader.{LineReader}

-- what was read and not yet handed on
abbrev pub held : {R : Type 0} → LineReader R → List ℕ
held r = slice_range r.bytes r.from r.to

-- what is held, and then what the input has left
abbrev pub unread : {R : Type 0} → (R → Option (List ℕ)) → LineReader R → Option (List ℕ)
unread remaining r = prepend_known (held r) (remaining r.input)

-- what is handed on is the first line, and nothing is where nothing is left
abbrev pub Hands : {E : Type 0} → Option (List ℕ) → Result (Option (Bor (List ℕ))) E → Type 0
Hands left r = IfSome left (λ xs. IfOk r (λ line. MatchOption line (xs ≡ []) (λ bytes. (xs ≢ []) × (bytes.now ≡ first_line xs))))

-- after that line the rest is left; where reading failed, all is
abbrev pub Leaves : {X E : Type 0} → Option (List ℕ) → Option (List ℕ) → Result X E → Type 0
Leaves old new r = MatchResult r (λ _. IfSome old (λ xs. new ≡ Some (drop (length (first_line xs)) xs))) (λ _. Keeps old new)
