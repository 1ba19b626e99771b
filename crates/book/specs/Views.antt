-- What a book holds: the file, the states and the ledger.
use Rattle.std.specs.Prelude.{ℕ, ◌-◌, Bool, ◌&&◌, List, [], map, length, ℤ, pos, Some, None, Ok, Err, Option, nat_le, slice_index_or}
use Rattle.std.specs.List.{range_with_len}
use Rattle.ledger.specs.Entries.{first_differing, sums}
use Rattle.ledger.specs.declared.entry.Entry.{Entry}
use Rattle.store.specs.Facts.{facts_of_month}
use Rattle.store.specs.Months.{Month, earlier_peaks, hour_rows, no_month, has_reached}
use Rattle.store.specs.declared.month.State.{State}
use Rattle.tariff.specs.Limits.{line_count}
use Rattle.tariff.specs.Pricing.{Meaning, Outcome}
use Rattle.tariff.specs.declared.facts.PlainFacts.{PlainFacts}

-- the point that the book bills: its code, contract and substation total
pub record BilledPoint : Type 0 where
  pub code : List ℕ
  pub contract : ℕ
  pub substation : ℕ

pub record View : Type 0 where
  -- none before the book is opened
  pub point : Option BilledPoint
  -- the peaks of the 24 months before month 1, the oldest first
  pub before : List ℕ
  -- the months that were started, month 1 first
  pub months : List Month
  pub ledger : List Entry
  -- how many months and how many entries the lent memory holds
  pub capacity : ℕ
  pub room : ℕ

-- a new book
abbrev pub blank_view : ℕ → ℕ → View
blank_view capacity room = record {
  point = None;
  before = earlier_peaks [];
  months = [];
  ledger = [];
  capacity = capacity;
  room = room;
}

-- months go by their numbers from 1
abbrev pub month_index : ℕ → ℕ
month_index m = m - 1

abbrev pub is_month : ℕ → View → Bool
is_month m v = nat_le 1 m && nat_le m (length v.months)

abbrev pub month_at : ℕ → View → Month
month_at m v = slice_index_or v.months (month_index m) no_month

abbrev pub month_has_reached : State → ℕ → View → Bool
month_has_reached state m v = has_reached state (month_at m v).state

abbrev pub contract_of : Option BilledPoint → ℕ
contract_of (Some point) = point.contract
contract_of None = 0

abbrev pub substation_of : Option BilledPoint → ℕ
substation_of (Some point) = point.substation
substation_of None = 0

-- the facts of a month follow from the file alone, as it stands
unfoldable pub facts_of : View → ℕ → PlainFacts
facts_of v m = facts_of_month (contract_of v.point) (substation_of v.point) v.before v.months (month_index m)

-- what a schedule makes of the file, as it stands
unfoldable pub month_outcome : Meaning → View → ℕ → Outcome
month_outcome meaning v m = meaning (facts_of v m) (hour_rows (month_at m v))

-- the amount of each line of a month that the schedule can price
unfoldable pub amounts_in : Outcome → List ℤ
amounts_in (Ok cents) = map (λ i. slice_index_or cents i (pos 0)) (range_with_len 0 line_count)
amounts_in (Err fault) = []

-- what a month's entries add up to, line by line
abbrev pub sums_of : View → ℕ → List ℤ
sums_of v m = sums v.ledger m

-- the lowest line that pricing the file now would alter
unfoldable pub altered_line : Meaning → View → ℕ → Option ℕ
altered_line meaning v m = first_differing (amounts_in (month_outcome meaning v m)) (sums_of v m)
