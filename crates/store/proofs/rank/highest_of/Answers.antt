use Rattle.std.proofs.Common.{map, refl, sym, ap, ◌∙◌, arith}
use Rattle.store.specs.Months.{top}
use Rattle.store.proofs.Peaks.{highest_is_top}
use Rattle.store.proofs.rank.highest_of.Goals as goal

pub returns-in-Some : goal.returns-in-Some
returns-in-Some g c =
    let demand = g.K.Rank.demand in
    let best = c.index-items-best in
    let most = highest_is_top demand c.args.items.now c.in-Some.best best.result c.in-Some.ensures.best in
    record {
      counted = c.demand.ensures.read ∙ ap demand best.is ∙ most;
      within = c.demand.ensures.within;
    }

pub returns-in-None : goal.returns-in-None
unfolding top
returns-in-None g c =
    let none = c.in-None.ensures.empty.0 refl in
    record { counted = sym (ap (λ items. top (map g.K.Rank.demand items)) none); within = omega arith }
