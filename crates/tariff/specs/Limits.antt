-- The limits that facts, hours and amounts lie within.
use Rattle.std.specs.Prelude.{ℕ, ◌<◌, ◌≤◌, List, length, ℤ, slice_index_or, unsigned_abs}
use Rattle.tariff.specs.declared.facts.PlainFacts.{PlainFacts}
use Rattle.tariff.specs.declared.hours.HourRow.{HourRow}
use Rattle.tariff.specs.declared.limits.TheConstants.{MOST_CENTS, MOST_DEMAND, MOST_ENERGY, MOST_HOURS, MOST_PRICE}
use Rattle.tariff.specs.declared.line.TheConstants.{LINES}

-- n items stand before the first one outside its limits; all of them where there is none
pub record WithinUpTo {X : Type 0} (Within : X → Type 0) (xs : List X) (n : ℕ) : Type 0 where
  pub there : n ≤ length xs
  pub before : (k : ℕ) (d : X) → k < n → Within (slice_index_or xs k d)
  pub outside : (d : X) → n < length xs → ¬ Within (slice_index_or xs n d)

-- kW or kVA
abbrev pub most_demand : ℕ
most_demand = MOST_DEMAND

-- a contract capacity and the sum of those at its substation
abbrev pub CapacitiesWithin : ℕ → ℕ → Type 0
CapacitiesWithin contract substation = (1 ≤ contract) × (contract ≤ substation) × (substation ≤ most_demand)

abbrev pub ContractWithin : PlainFacts → Type 0
ContractWithin f = CapacitiesWithin f.contract f.substation

abbrev pub DemandWithin : PlainFacts → Type 0
DemandWithin f = (f.peak ≤ f.peak_kva) × (f.peak_kva ≤ most_demand) × (f.ratchet_peak ≤ most_demand)

abbrev pub FactsWithin : PlainFacts → Type 0
FactsWithin f = ContractWithin f × DemandWithin f

abbrev pub HourWithin : HourRow → Type 0
HourWithin hour = (hour.energy ≤ MOST_ENERGY) × (hour.price ≤ MOST_PRICE) × (hour.scheduled ≤ most_demand)

-- what is read past the last row
abbrev pub no_row : HourRow
no_row = record { energy = 0; price = 0; scheduled = 0 }

abbrev pub RowsWithin : List HourRow → Type 0
RowsWithin rows = (k : ℕ) → HourWithin (slice_index_or rows k no_row)

-- the hours of 31 days
abbrev pub most_hours : ℕ
most_hours = MOST_HOURS

-- the lines of a bill
abbrev pub line_count : ℕ
line_count = LINES

-- cents, either way
abbrev pub most_cents : ℕ
most_cents = MOST_CENTS

abbrev pub AmountWithin : ℤ → Type 0
AmountWithin cents = unsigned_abs cents ≤ most_cents
