use Rattle.std.proofs.Common.{◌≡◌, ℕ, ◌<◌, get_or, map}
use Rattle.tariff.specs.Limits.{RowsWithin, no_row}
use Rattle.store.specs.Months.{hour_row}
use Rattle.store.specs.Records.{hour_of, reading_of}
use Rattle.store.proofs.report.fill_rows.Given as goal

abbrev pub invariant-loop-h : goal.invariant-loop-h
invariant-loop-h l = ((k : ℕ) → k < l.h
    → get_or l.rows k no_row ≡ hour_row (map reading_of l.quarters) (map hour_of l.hours) k)
    × RowsWithin l.rows
