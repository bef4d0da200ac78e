-- What a register holds.
use Rattle.std.specs.Prelude.{List, take}
use Rattle.std.specs.Borrow.{MutBor}
use Rattle.register.specs.declared.Register.{Register}

-- the loan of the memory for its rows
abbrev pub loan : {R K : Type 0} {k : _} → Register R K k → MutBor (List R)
loan r = r.rows

-- that memory
abbrev pub lent : {R K : Type 0} {k : _} → Register R K k → List R
lent r = (loan r).now

-- its rows: the first of that memory
abbrev pub held : {R K : Type 0} {k : _} → Register R K k → List R
held r = take r.len (lent r)
