-- The months that a store's memory and records hold.
use Rattle.std.specs.Prelude.{◌≡◌, ℕ, ◌+◌, ◌*◌, ◌<◌, ◌≤◌, if◌then◌else◌, List, length, map, take, drop, Some, None, Option, nat_le, slice_index_or}
use Rattle.std.proofs.Common.{lit≤}
use Rattle.tariff.specs.declared.limits.TheConstants.{MOST_PRICE}
use Rattle.store.specs.Months.{HourOnFile, quarters_of, kw_of, top}
use Rattle.store.specs.declared.carried.TheConstants.{RATCHET}
use Rattle.store.specs.declared.memory.TheConstants.{MONTH_HOURS, MONTH_QUARTERS}
use Rattle.store.specs.declared.memory.Quarter.{Quarter}
use Rattle.store.specs.declared.memory.Hour.{Hour}
use Rattle.store.specs.declared.month.TheConstants.{LEAST_DAYS}
use Rattle.store.specs.declared.month.MonthRecord.{MonthRecord}
use Rattle.store.specs.declared.month.MonthRecords.{MonthRecords}
use Rattle.store.specs.declared.month.State.TheVariants.{Open}
use Rattle.store.specs.declared.post.Reading.{Reading}

-- a quarter whose kVA is below its kW was never posted, nor was an hour whose price is above its limit
abbrev pub reading_of : Quarter → Option Reading
reading_of quarter =
    let reading : Reading = record { kw = quarter.kw; kva = quarter.kva } in
    if nat_le quarter.kw quarter.kva then Some reading else None

abbrev pub hour_of : Hour → HourOnFile
hour_of hour =
    let price = if nat_le hour.price MOST_PRICE then Some hour.price else None in
    record { price = price; scheduled = hour.scheduled }

-- the stretch of memory that is the month at place k, where each month has the same room
unfoldable pub stretch : {X : Type 0} → ℕ → ℕ → ℕ → List X → List X
stretch room k n memory = take n (drop (room * k) memory)

-- the highest kW in the stretch of the month at place k
unfoldable pub peak_in : List Quarter → ℕ → ℕ → ℕ
peak_in quarters k days =
    top (map (λ quarter. kw_of (reading_of quarter)) (stretch MONTH_QUARTERS k (quarters_of days) quarters))

-- a record as a store has them before any month is started
abbrev pub first_record : MonthRecord
first_record =
    record { days = LEAST_DAYS; state = Open; peak = 0; length = (lit≤ tt, lit≤ tt); within = lit≤ tt }

-- the record of the month at place k, after those of the months before month 1
abbrev pub record_in : List MonthRecord → ℕ → MonthRecord
record_in records k = slice_index_or records (RATCHET + k) first_record

-- the peak that the record of each started month keeps is the highest kW of its stretch
abbrev pub KeepsPeaks : List MonthRecord → ℕ → List Quarter → Type 0
KeepsPeaks records started quarters =
    (k : ℕ) → k < started → (record_in records k).peak ≡ peak_in quarters k (record_in records k).days

-- lent memory has room for each started month, and their peaks are kept
abbrev pub Keeps : MonthRecords → List Quarter → List Hour → Type 0
Keeps months quarters hours =
    (MONTH_QUARTERS * months.started ≤ length quarters)
    × (MONTH_HOURS * months.started ≤ length hours)
    × KeepsPeaks months.records months.started quarters
