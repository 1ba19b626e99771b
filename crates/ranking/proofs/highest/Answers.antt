use Rattle.std.proofs.Common.{◌≡◌, get_or, sym, ◌∙◌}
use Rattle.std.proofs.lemmas.List.{get_or_default}
use Rattle.ranking.proofs.Firsts.{best_of_all, best_so_far}
use Rattle.ranking.proofs.highest.Goals as goal

pub loop-next-preserved : goal.loop-next-preserved
loop-next-preserved g c =
    let items = c.args.items.now in
    let best = c.loop-next.best in
    let found = c.in-Some.ensures in
    let read : (d : _) → get_or items best d ≡ c.index-items-best.result =
    λ d. get_or_default items best d c.index-items-best.result c.loop-next.invariant.0
    ∙ sym c.index-items-best.is in (
      found.there,
      best_so_far g.K.Order.outranks g.met.K.Order.orders items best c.loop-next.invariant.1 c.in-Some.next
          (λ d. rw (read d) found.before) (λ d. rw (read d) (found.above d)),
    )

pub returns-clause-best : goal.returns-clause-best
returns-clause-best g c =
    let items = c.args.items.now in
    let best = c.loop-next.best in
    let read : (d : _) → get_or items best d ≡ c.index-items-best.result =
    λ d. get_or_default items best d c.index-items-best.result c.loop-next.invariant.0
    ∙ sym c.index-items-best.is in
    best_of_all g.K.Order.outranks g.met.K.Order.orders items best c.loop-next.invariant.1
    c.loop-next.invariant.0 (λ d. rw (read d) c.in_default.ensures.none)
