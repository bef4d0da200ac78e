-- A statement more leaves the places behind it blank.
use Rattle.std.proofs.Common.{◌≡◌, ◌+◌, ◌-◌, ◌<◌, ℕ, List, replicate, ap, sym, ◌∙◌, arith, length-set, drop-set-lt, drop-drop}
use Rattle.std.specs.Prelude.{drop, slice_set}
use Rattle.std.proofs.lemmas.List.{drop-replicate}
use Rattle.collateral.specs.declared.statements.Statement.{Statement}
use Rattle.collateral.specs.Blanks.{Kept, blank}

pub one_more : (n : ℕ) (rows : List Statement) (a : Statement) → Kept n rows → n < 32 → Kept (n + 1) (slice_set rows n a)
one_more n rows a h lt =
    let fewer : 32 - n - 1 ≡ 32 - (n + 1) = omega arith in
    let left = drop-set-lt (n + 1) rows n a (omega arith) ∙ sym (drop-drop 1 n rows) ∙ ap (drop 1) h.2 ∙ drop-replicate 1 (32 - n) blank ∙ ap (λ k. replicate k blank) fewer in
    (omega (arith, lt), length-set rows n a ∙ h.1, left)
