-- The rows of a month's hours.
use Rattle.std.specs.Prelude.{List, take}
use Rattle.tariff.specs.declared.hours.HourRow.{HourRow}
use Rattle.store.specs.declared.report.MonthHours.{MonthHours}

unfoldable pub rows_in : MonthHours → List HourRow
rows_in month = take month.count month.rows
