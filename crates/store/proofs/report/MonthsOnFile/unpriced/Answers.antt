use Rattle.std.proofs.Common.{is_none, sym, ap, ◌∙◌, rules, tests}
use Rattle.std.specs.List.{position}
use Rattle.std.proofs.lemmas.Iterator.{YieldsList-from_slice}
use Rattle.std.proofs.lemmas.Iterator.Search.{position_from_yields_List}
use Rattle.store.specs.Records.{hour_of}
use Rattle.store.proofs.Windows.{position_map}
use Rattle.store.proofs.report.MonthsOnFile.unpriced.Goals as goal

pub returns-clause-first : goal.returns-clause-first
returns-clause-first c =
    let hours_on_file = c.hours_on_file in
    position_from_yields_List
    (λ hour. is_none (hour_of hour).price) _ _ c.position.result c.position.ensures.ran
    (YieldsList-from_slice hours_on_file.result.now cc) (λ x b q k. search (rules, tests))
    ∙ sym (position_map (λ hour. is_none hour.price) hour_of hours_on_file.result.now)
    ∙ ap (position (λ hour. is_none hour.price)) hours_on_file.ensures.read
