-- A month on file: what was posted for it, the state that it is in, and what follows from it.
use Rattle.std.specs.Prelude.{ℕ, ◌+◌, ◌-◌, ◌*◌, max, Bool, true, false, ◌&&◌, List, [], ◌∷◌, ◌++◌, map, length, take, drop, replicate, is_none, Some, None, Option, option_map, if◌then◌else◌, nat_le, slice_index, slice_index_or, slice_set, unwrap_or}
use Rattle.std.specs.Option.{option_or}
use Rattle.std.specs.List.{position, prefix_len, range_with_len}
use Rattle.tariff.specs.Limits.{most_demand}
use Rattle.tariff.specs.declared.hours.HourRow.{HourRow}
use Rattle.store.specs.declared.carried.TheConstants.{RATCHET}
use Rattle.store.specs.declared.memory.TheConstants.{DAY_HOURS, DAY_QUARTERS}
use Rattle.store.specs.declared.month.TheConstants.{LEAST_DAYS, MOST_DAYS}
use Rattle.store.specs.declared.month.State.{State}
use Rattle.store.specs.declared.month.State.TheVariants.{Open, Billed, Final}
use Rattle.store.specs.declared.post.Reading.{Reading}
use Rattle.store.specs.declared.report.TheConstants.{PAST_QUARTERS}
use Rattle.store.specs.declared.report.Missing.{Missing}
use Rattle.store.specs.declared.report.Missing.TheVariants.{Reading as MissingReading, Price as MissingPrice}

-- an hour: its pool price, where one was posted, and its scheduled kW
pub record HourOnFile : Type 0 where
  pub price : Option ℕ
  pub scheduled : ℕ

-- readings by quarter and hours by hour, both from 0
pub record Month : Type 0 where
  pub days : ℕ
  pub state : State
  pub readings : List (Option Reading)
  pub hours : List HourOnFile

-- a month has 28 to 31 days
abbrev pub days_within : ℕ → Bool
days_within days = nat_le LEAST_DAYS days && nat_le days MOST_DAYS

-- how many quarters and hours so many days have
abbrev pub quarters_of : ℕ → ℕ
quarters_of days = DAY_QUARTERS * days

abbrev pub hours_of : ℕ → ℕ
hours_of days = DAY_HOURS * days

-- an hour that nothing was posted for
abbrev pub new_hour : HourOnFile
new_hour = record { price = None; scheduled = 0 }

-- a month that was just started: nothing is posted, nothing is scheduled
unfoldable pub new_month : ℕ → Month
new_month days = record {
  days = days;
  state = Open;
  readings = replicate (quarters_of days) None;
  hours = replicate (hours_of days) new_hour;
}

-- what is read past the last month
unfoldable pub no_month : Month
no_month = new_month 0

-- the states in their order
abbrev pub has_reached : State → State → Bool
has_reached Open state = true
has_reached Billed Open = false
has_reached Billed _ = true
has_reached Final Final = true
has_reached Final _ = false

abbrev pub with_state : State → Month → Month
with_state state month = record month { state = state }

-- a month that is taken on to a state; one that has come as far stays as it is
abbrev pub advanced : State → Month → Month
advanced state month = if has_reached state month.state then month else with_state state month

-- one month of several altered, by its place from 0
abbrev pub months_with : ℕ → (Month → Month) → List Month → List Month
months_with k alter months = slice_set months k (alter (slice_index_or months k no_month))

-- the first reading that is missing, else the first price
unfoldable pub first_missing : Month → Option Missing
first_missing month =
    option_or (option_map MissingReading (position is_none month.readings))
    (option_map MissingPrice (position (λ hour. is_none hour.price) month.hours))

-- a missing reading by its quarter, a missing price by its hour past the quarters
abbrev pub missing_place : Missing → ℕ
missing_place (MissingReading quarter) = quarter
missing_place (MissingPrice hour) = PAST_QUARTERS + hour

abbrev pub first_missing_place : Month → Option ℕ
first_missing_place month = option_map missing_place (first_missing month)

-- what a place counts where no reading or price is on file: nothing
abbrev pub kw_of : Option Reading → ℕ
kw_of (Some reading) = reading.kw
kw_of None = 0

abbrev pub kva_of : Option Reading → ℕ
kva_of (Some reading) = reading.kva
kva_of None = 0

-- the highest of a list, 0 where there is none
unfoldable pub top : List ℕ → ℕ
top [] = 0
top (x ∷ xs) = max x (top xs)

-- the highest kW and the highest kVA of a month
unfoldable pub peak : Month → ℕ
peak month = top (map kw_of month.readings)

unfoldable pub peak_kva : Month → ℕ
peak_kva month = top (map kva_of month.readings)

-- hour h of such readings and hours has the energy of quarters 4h to 4h + 3
abbrev pub hour_row : List (Option Reading) → List HourOnFile → ℕ → HourRow
hour_row readings hours h =
    let kw : ℕ → ℕ = λ quarter. kw_of (slice_index_or readings quarter None) in
    let hour = slice_index_or hours h new_hour in
    record {
      energy = kw (4 * h) + kw (4 * h + 1) + kw (4 * h + 2) + kw (4 * h + 3);
      price = unwrap_or hour.price 0;
      scheduled = hour.scheduled;
    }

unfoldable pub hour_rows : Month → List HourRow
hour_rows month = map (hour_row month.readings month.hours) (range_with_len 0 (hours_of month.days))

-- the carried peaks as those of the 24 months before month 1, the oldest first; 0 where none was carried
unfoldable pub earlier_peaks : List ℕ → List ℕ
earlier_peaks carried = map (λ i. slice_index carried (RATCHET - 1 - i)) (range_with_len 0 RATCHET)

-- the highest peak of the 24 months before the month at place k, those before month 1 included
unfoldable pub ratchet_peak : List ℕ → List Month → ℕ → ℕ
ratchet_peak before months k = top (take RATCHET (drop k (before ++ map peak months)))

-- at most 24 carried peaks, each a demand
abbrev pub can_carry : List ℕ → Bool
can_carry carried = nat_le (length carried) RATCHET && nat_le (top carried) most_demand

-- the first of the months before place k that has not reached a state; k where all have
abbrev pub first_short_month : State → List Month → ℕ → ℕ
first_short_month state months k = prefix_len (λ month. has_reached state month.state) (take k months)
