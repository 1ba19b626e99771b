use Rattle.std.proofs.Common.{rules}
use Rattle.std.proofs.lemmas.Option.{slice_get-get_or}
use Rattle.exports.specs.Piles.{no_memory, rate_fails, rider_fails}
use Rattle.exports.proofs.pile.pile.Goals as goal

pub returns-in_err-sheet : goal.returns-in_err-sheet
returns-in_err-sheet c = search (rules, rate_fails)

pub returns-in_err-sheet-2 : goal.returns-in_err-sheet-2
returns-in_err-sheet-2 c = search (rules, rider_fails, slice_get-get_or)

pub returns-in_default : goal.returns-in_default
returns-in_default c = search (rules, no_memory)
