use Rattle.ranking.specs.Orders.{NoneAbove}
use Rattle.ranking.proofs.first_above.Given as goal

abbrev pub invariant-loop-i : goal.invariant-loop-i
invariant-loop-i g l = NoneAbove g.K.Order.outranks l.items l.from l.i l.other
