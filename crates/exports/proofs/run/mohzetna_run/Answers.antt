use Rattle.std.proofs.Common.{rules}
use Rattle.exports.specs.Runs.{fails, runs}
use Rattle.exports.proofs.run.mohzetna_run.Goals as goal

pub returns-in-Ok : goal.returns-in-Ok
returns-in-Ok c = search (rules, runs)

pub returns-in-Err : goal.returns-in-Err
returns-in-Err c = search (rules, fails)
