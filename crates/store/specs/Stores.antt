-- What a store holds: its months, the peaks before them, and its room.
use Rattle.std.specs.Prelude.{◌≡◌, ℕ, ◌+◌, ◌*◌, ◌/◌, ◌<◌, ◌≤◌, min, not, if◌then◌else◌, List, [], map, length, take, Some, Ok, Err, Result, nat_le, slice_get, slice_index_or}
use Rattle.std.specs.List.{range_with_len}
use Rattle.tariff.specs.declared.refusal.Refusal.{Refusal}
use Rattle.tariff.specs.declared.refusal.Refusal.TheVariants.{NoMonthFree, DaysOutside}
use Rattle.store.specs.Months.{Month, days_within, earlier_peaks, hours_of, months_with, no_month, quarters_of}
use Rattle.store.specs.Records.{Keeps, KeepsPeaks, hour_of, reading_of, record_in, stretch}
use Rattle.store.specs.declared.carried.TheConstants.{RATCHET}
use Rattle.store.specs.declared.memory.TheConstants.{MONTH_HOURS, MONTH_QUARTERS}
use Rattle.store.specs.declared.memory.Quarter.{Quarter}
use Rattle.store.specs.declared.memory.Hour.{Hour}
use Rattle.store.specs.declared.month.MonthRecord.{MonthRecord}
use Rattle.store.specs.declared.month.MonthRecords.{MonthRecords}
use Rattle.store.specs.declared.month.TheConstants.{MOST_MONTHS, RECORDS}
use Rattle.store.specs.declared.report.MonthsOnFile.{MonthsOnFile}
use Rattle.store.specs.declared.store.Store.{Store}

-- what is filed: the records of the months, and what stands in the lent memory
pub record Filed : Type 0 where
  pub records : List MonthRecord
  pub started : ℕ
  pub quarters : List Quarter
  pub hours : List Hour
  pub recorded : length records ≡ RECORDS
  pub few : started ≤ MOST_MONTHS
  pub quarters_fit : MONTH_QUARTERS * started ≤ length quarters
  pub hours_fit : MONTH_HOURS * started ≤ length hours
  pub peaks : KeepsPeaks records started quarters

abbrev pub filed_as : (months : MonthRecords) (quarters : List Quarter) (hours : List Hour)
    → Keeps months quarters hours → Filed
filed_as months quarters hours kept = record {
  records = months.records;
  started = months.started;
  quarters = quarters;
  hours = hours;
  recorded = months.recorded;
  few = months.few;
  quarters_fit = kept.0;
  hours_fit = kept.1;
  peaks = kept.2;
}

abbrev pub filed : Store → Filed
filed store = filed_as store.months.now store.quarters.now store.hours.now store.kept

abbrev pub filed_in : MonthsOnFile → Filed
filed_in file = filed_as file.months.now file.quarters.now file.hours.now file.kept

-- the same lent memory and records before and after
abbrev pub SameMemory : Store → Store → Type 0
SameMemory old new =
    (new.quarters.ghost_name ≡ old.quarters.ghost_name)
    × (new.hours.ghost_name ≡ old.hours.ghost_name)
    × (new.months.ghost_name ≡ old.months.ghost_name)

-- the month that the records and the memory hold at place k, from 0
unfoldable pub month_of : Filed → ℕ → Month
month_of file k =
    let month = record_in file.records k in
    record {
      days = month.days;
      state = month.state;
      readings = map reading_of (stretch MONTH_QUARTERS k (quarters_of month.days) file.quarters);
      hours = map hour_of (stretch MONTH_HOURS k (hours_of month.days) file.hours);
    }

unfoldable pub months_of : Filed → List Month
months_of file = map (month_of file) (range_with_len 0 file.started)

-- the month at place k, from 0, and no month past the last
abbrev pub month_in : Filed → ℕ → Month
month_in file k = slice_index_or (months_of file) k no_month

-- the peaks of the 24 months before month 1, the oldest first
unfoldable pub earlier_peaks_of : Filed → List ℕ
earlier_peaks_of file = map (λ month. month.peak) (take RATCHET file.records)

-- how many months memory of so many quarters and hours holds
unfoldable pub capacity : ℕ → ℕ → ℕ
capacity quarters hours = min MOST_MONTHS (min (quarters / MONTH_QUARTERS) (hours / MONTH_HOURS))

unfoldable pub capacity_of : Filed → ℕ
capacity_of file = capacity (length file.quarters) (length file.hours)

-- the number of the month that is started, from 1, where there is memory for it and months have so many days
abbrev pub start_answer : ℕ → ℕ → ℕ → Result ℕ Refusal
start_answer capacity started days =
    if nat_le capacity started then Err NoMonthFree
    else if not (days_within days) then Err DaysOutside
    else Ok (started + 1)

-- the month at place k is altered, and nothing else: not the peaks before month 1, nor the room
pub record Alters (k : ℕ) (alter : Month → Month) (old new : Filed) : Type 0 where
  pub months : months_of new ≡ months_with k alter (months_of old)
  pub before : earlier_peaks_of new ≡ earlier_peaks_of old
  pub capacity : capacity_of new ≡ capacity_of old

-- no month is started and no peak stands before them, whatever stands in the memory
pub record HasNone (none : MonthRecords) : Type 0 where
  pub kept : (quarters : List Quarter) (hours : List Hour) → Keeps none quarters hours
  pub months : (quarters : List Quarter) (hours : List Hour) (kept : Keeps none quarters hours)
      → months_of (filed_as none quarters hours kept) ≡ []
  pub before : (quarters : List Quarter) (hours : List Hour) (kept : Keeps none quarters hours)
      → earlier_peaks_of (filed_as none quarters hours kept) ≡ earlier_peaks []

-- quarter q of the month at place k, from 0, has a record in the memory, at 2,976 × k + q, and hour h one at
-- 744 × k + h; what is on file for each is just what its record has
pub record Stands (file : Filed) : Type 0 where
  pub quarters : (k quarter : ℕ) → quarter < quarters_of (month_in file k).days
      → (held : Quarter) × (slice_get file.quarters (MONTH_QUARTERS * k + quarter) ≡ Some held)
      × (slice_get (month_in file k).readings quarter ≡ Some (reading_of held))
  pub hours : (k hour : ℕ) → hour < hours_of (month_in file k).days
      → (held : Hour) × (slice_get file.hours (MONTH_HOURS * k + hour) ≡ Some held)
      × (slice_get (month_in file k).hours hour ≡ Some (hour_of held))
