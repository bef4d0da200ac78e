-- What a charge of a given meaning answers.
use Rattle.std.specs.Prelude.{◌&&◌, List, length, ℤ, Result}
use Rattle.terms.specs.declared.faults.Fault.{Fault}
use Rattle.charge.specs.Positions.{fits}
use Rattle.charge.specs.Answers.{answer}
use Rattle.sheet.specs.Given.{Terms}
use Rattle.charge.specs.Meanings.{Meaning}

abbrev pub amount_answer : Meaning → Terms → List ℤ → Result ℤ Fault
amount_answer m t p = answer (fits (length t.rows) p) (m.charged t p) (m.blamed t p) m.refuses

abbrev pub allowance_answer : Meaning → Terms → List ℤ → List ℤ → Result ℤ Fault
allowance_answer m t p q = answer (fits (length t.rows) p && fits (length t.rows) q) (m.allowed t p q) (m.faulted t p q) m.refuses
