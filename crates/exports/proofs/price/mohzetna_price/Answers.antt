use Rattle.std.proofs.Common.{rules}
use Rattle.exports.specs.Prices.{fails, prices}
use Rattle.exports.proofs.price.mohzetna_price.Goals as goal

pub returns-in-Ok : goal.returns-in-Ok
returns-in-Ok c = search (rules, prices)

pub returns-in-Err : goal.returns-in-Err
returns-in-Err c = search (rules, fails)
