use Rattle.std.proofs.Common.{take}
use Rattle.exports.specs.Piles.{DescribesSheets}
use Rattle.exports.proofs.pile.pile.Given as goal

abbrev pub invariant-loop-rider : goal.invariant-loop-rider
invariant-loop-rider l =
    DescribesSheets l.rate (take l.rider-index l.riders) l.pile.schedule l.pile.riders.items
