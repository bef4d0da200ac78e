-- A pool is one of the events of the book's law, since its charge is lawful.
use Rattle.std.proofs.Common.{rules, ◌≡◌, Ok, w64, to_z, of_z}
use Rattle.book.specs.declared.pooling.PoolFigures.{PoolFigures}
use Rattle.book.specs.Events.{asks, pools}
use Rattle.book.specs.Pool.{pool}
use Rattle.book.specs.View.{view}
use Rattle.book.proofs.books.Book.pool.Goals as goal

pub returns-in_err-summed-clause-step : goal.returns-in_err-summed-clause-step
returns-in_err-summed-clause-step g c =
    let e : c.from_residual.result ≡ pool (g.C.Charge.meaning c.args.charge.now) (view c.args.self.now) c.args.side = search rules in
    asks (pools (g.met.C.Charge.lawful c.args.charge.now) e)

pub returns-in_err-class_pools-clause-step : goal.returns-in_err-class_pools-clause-step
returns-in_err-class_pools-clause-step g c =
    let e : c.from_residual-in_err-class_pools.result ≡ pool (g.C.Charge.meaning c.args.charge.now) (view c.args.self.now) c.args.side = search rules in
    asks (pools (g.met.C.Charge.lawful c.args.charge.now) e)

pub returns-in_err-value-clause-step : goal.returns-in_err-value-clause-step
returns-in_err-value-clause-step g c =
    let e : c.from_residual-in_err-value.result ≡ pool (g.C.Charge.meaning c.args.charge.now) (view c.args.self.now) c.args.side = search rules in
    asks (pools (g.met.C.Charge.lawful c.args.charge.now) e)

pub returns-clause-step : goal.returns-clause-step
returns-clause-step g c =
    let p : PoolFigures = record { value = to_z w64 (of_z w64 c.in_ok-value.value); summed = c.in_ok-summed.summed; allowance = to_z w64 (of_z w64 c.pooled_allowance-allowance.result) } in
    let e : Ok p ≡ pool (g.C.Charge.meaning c.args.charge.now) (view c.args.self.now) c.args.side = search rules in
    asks (pools (g.met.C.Charge.lawful c.args.charge.now) e)
