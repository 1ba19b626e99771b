use Rattle.std.proofs.Common.{◌≡◌, ◌+◌, not, drop, is_none}
use Rattle.std.specs.List.{prefix_len}
use Rattle.store.specs.Records.{reading_of}
use Rattle.store.specs.declared.memory.Quarter.{Quarter}
use Rattle.store.proofs.report.MonthsOnFile.unread.Given as goal

-- so far each quarter has a reading
abbrev pub invariant-loop-quarter : goal.invariant-loop-quarter
invariant-loop-quarter l =
    let read = λ (quarter : Quarter). not (is_none (reading_of quarter)) in
    prefix_len read l.record-items ≡ l.quarter + prefix_len read (drop l.quarter l.record-items)
