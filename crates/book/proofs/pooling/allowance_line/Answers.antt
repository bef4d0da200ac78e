use Rattle.std.proofs.Common.{lit<}
use Rattle.account.proofs.Kit.{product_small, product_back}
use Rattle.book.proofs.pooling.allowance_line.Goals as goal

pub returns : goal.returns
returns c =
    let e = product_back c.args.allowance _ c.args.rate 100000000000 200000 c.from.ensures c.requires.allowance c.requires.rate (lit< tt) (lit< tt) (lit< tt) in
    record { value = e; bound = rw e (product_small c.args.allowance _ c.args.rate 100000000000 200000 c.from.ensures c.requires.allowance c.requires.rate (lit< tt) (lit< tt) (lit< tt)) }
