use Rattle.std.proofs.Common.{arith}
use Rattle.std.proofs.lemmas.Int.{to_z-of_z}
use Rattle.sheet.proofs.Made.{no_price, no_shares, series_is}
use Rattle.sheet.proofs.limits.series_row.Goals as goal

pub returns-in_err-price : goal.returns-in_err-price
returns-in_err-price c = record { value = grind (arith, to_z-of_z, no_price) }

pub returns-in_err-shares : goal.returns-in_err-shares
returns-in_err-shares c = record { value = grind (arith, to_z-of_z, no_shares) }

pub returns : goal.returns
returns c = record { value = grind (arith, to_z-of_z, series_is) }
