use Rattle.std.proofs.Common.{◌≡◌, get_or, sym, ⊎_elim, arith}
use borrow.Author.Differences.{up}
use Rattle.std.proofs.lemmas.Int.{ints}
use Rattle.std.proofs.lemmas.List.{get_or-map}
use Rattle.charge.specs.Spread.{month_of, month_delta}
use Rattle.charge.specs.Sizes.{one_part}
use Rattle.charge.proofs.Dots.{no_series}
use Rattle.charge.proofs.Sides.{sides_none, sides_as_before, sides_more}
use Rattle.charge.proofs.positions.Position.sides.Goals as goal
use Rattle.charge.proofs.positions.Position.sides.Goals.{then-not-seen+then-delta-gt0, then-not-seen+else-delta-gt0, else-not-seen}

pub loop-i-init : goal.loop-i-init
loop-i-init c = sides_none _ _

pub loop-i-preserved : goal.loop-i-preserved
loop-i-preserved c =
    let rows = c.args.self.now.class.now.series.now in
    let p = c.args.self.now.counts.now in
    let at = get_or-map month_of rows c.loop-i.i no_series 0 c.loop-i-test.true in
    let d = month_delta (month_of (get_or rows c.loop-i.i no_series)) rows p in
    elim c.if-not-seen.branch [
      | then-not-seen+then-delta-gt0 w ↦
          let t = sides_more rows p c.loop-i.i _ c.loop-i.longs c.loop-i.shorts c.loop-i.invariant at (sym w.if-not-seen.ensures.value) (rw (← w.month_delta-delta.ensures.value) w.month_delta-delta.ensures.bound) in
          record { longs_is = omega (arith, ints); shorts_is = omega (arith, ints); bound = omega (arith, ints) }
      | then-not-seen+else-delta-gt0 w ↦
          let t = sides_more rows p c.loop-i.i _ c.loop-i.longs c.loop-i.shorts c.loop-i.invariant at (sym w.if-not-seen.ensures.value) (rw (← w.month_delta-delta.ensures.value) w.month_delta-delta.ensures.bound) in
          let none : up d ≡ 0 = ⊎_elim (λ e. e) (λ e. omega (arith, ints)) (one_part d) in
          record { longs_is = omega (arith, ints); shorts_is = omega (arith, ints); bound = omega (arith, ints) }
      | else-not-seen w ↦
          let t = sides_as_before rows p c.loop-i.i _ c.loop-i.longs c.loop-i.shorts c.loop-i.invariant at (sym w.if-not-seen.ensures.value) in
          record { longs_is = omega (arith, ints); shorts_is = omega (arith, ints); bound = omega (arith, ints) }
    ]
