use Rattle.std.proofs.Common.{◌*◌, arith, lit<}
use borrow.Author.Differences.{ints}
use Rattle.account.proofs.Kit.{product_small, minus_fits, minus_back}
use Rattle.account.proofs.positions.line_mark.Goals as goal

pub overflow_sub-result : goal.overflow_sub-result
overflow_sub-result c = minus_fits c.args.count _ (c.args.price * c.args.shares) 3200000 10000000 c.from.ensures c.requires.count c.requires.worth (lit< tt) (lit< tt) (lit< tt)

pub returns : goal.returns
returns c =
    let e = minus_back c.args.count _ (c.args.price * c.args.shares) 3200000 10000000 c.from.ensures c.requires.count c.requires.worth (lit< tt) (lit< tt) (lit< tt) in
    let small = product_small c.args.count _ (c.args.price * c.args.shares) 3200000 10000000 c.from.ensures c.requires.count c.requires.worth (lit< tt) (lit< tt) (lit< tt) in
    record { value = e; bound = rw e (omega (arith, ints, small)) }
