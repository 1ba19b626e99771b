use Rattle.std.proofs.Common.{is_none, sym, ap, ◌∙◌, arith, rules}
use Rattle.std.specs.List.{position}
use Rattle.store.specs.Records.{reading_of}
use Rattle.store.proofs.Windows.{position_found, position_map, position_passed}
use Rattle.store.proofs.report.MonthsOnFile.unread.Goals as goal

pub returns-then-is_none-clause-first : goal.returns-then-is_none-clause-first
returns-then-is_none-clause-first c =
    let quarters = c.readings-record-items.result.now in
    position_found (λ quarter. is_none (reading_of quarter)) quarters c.loop-quarter.quarter
    c.loop-quarter.invariant c.record-item.result (omega arith) (search rules)
    ∙ sym (position_map is_none reading_of quarters)
    ∙ ap (position is_none) c.readings-record-items.ensures.read

pub returns-clause-first : goal.returns-clause-first
returns-clause-first c =
    let quarters = c.readings-record-items.result.now in
    position_passed (λ quarter. is_none (reading_of quarter)) quarters c.loop-quarter.quarter
    c.loop-quarter.invariant (omega (arith, c.loop-quarter-test.false))
    ∙ sym (position_map is_none reading_of quarters)
    ∙ ap (position is_none) c.readings-record-items.ensures.read
