use Rattle.std.proofs.Common.{◌≡◌, ℕ, List, map, length, Option}
use Rattle.std.specs.List.{range_with_len}
use Rattle.tariff.specs.declared.hours.HourRow.{HourRow}
use Rattle.store.specs.Months.{HourOnFile, Month, hour_row, hour_rows, hours_of}
use Rattle.store.specs.Rows.{rows_in}
use Rattle.store.specs.declared.post.Reading.{Reading}
use Rattle.store.proofs.report.MonthsOnFile.hours.Goals as goal

-- a month's rows depend on its readings, its hours and their number alone
rows_of_month : (month : Month) (readings : List (Option Reading)) (hours : List HourOnFile) (n : ℕ)
    (rows : List HourRow) → readings ≡ month.readings → hours ≡ month.hours → n ≡ hours_of month.days
    → rows ≡ map (hour_row readings hours) (range_with_len 0 n) → rows ≡ hour_rows month
unfolding hour_rows
rows_of_month month readings hours n rows read priced counted filled = cc

pub returns : goal.returns
unfolding rows_in
returns c =
    let hours = c.hours_on_file-hours in
    rows_of_month _ _ _ (length hours.result.now) _ c.readings.ensures.read hours.ensures.read
    hours.ensures.counted c.fill_rows.ensures.filled
