use Rattle.std.proofs.Common.{leb, ◌&&◌, length, rules, tests, sym, ap, ◌∙◌}
use Rattle.std.proofs.lemmas.Bool.{le-leb}
use Rattle.std.proofs.lemmas.Iterator.{YieldsList-from_slice}
use Rattle.std.proofs.lemmas.Iterator.Search.{all_from_yields_List}
use Rattle.store.specs.Months.{top}
use Rattle.store.proofs.Peaks.{all_top}
use Rattle.store.proofs.carried.can_carry.Goals as goal

pub returns-then-carried-le-RATCHET : goal.returns-then-carried-le-RATCHET
returns-then-carried-le-RATCHET c =
    let carried = c.args.carried.now in
    all_from_yields_List (λ peak. leb peak 1000000) _ _ _ c.all.ensures.ran
    (YieldsList-from_slice carried cc) (λ x b q k. search (rules, tests))
    ∙ all_top carried 1000000
    ∙ sym (ap (λ few. few && leb (top carried) 1000000)
    (le-leb (length carried) 24 c.if-carried-le-RATCHET.true))
