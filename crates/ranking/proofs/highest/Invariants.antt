use Rattle.std.proofs.Common.{◌+◌, ◌-◌, ◌<◌, length}
use Rattle.std.specs.List.{IsFirstBest}
use Rattle.ranking.proofs.highest.Given as goal

-- none of those looked at is above it, and it is above each before it
abbrev pub invariant-loop-next : goal.invariant-loop-next
invariant-loop-next g l =
    (l.best < length l.items) × IsFirstBest g.K.Order.outranks l.items (l.best + 1) l.best

abbrev pub decreases-loop-next : goal.decreases-loop-next
decreases-loop-next g l = length l.items - l.best
