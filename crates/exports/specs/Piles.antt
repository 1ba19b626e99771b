-- The sheets that records describe, and why there may be none.
use Rattle.std.specs.Prelude.{◌≡◌, ℕ, ◌<◌, List, length, map, take, Some, None, Option, IsSomeAnd}
use Rattle.std.specs.List.{slice_get}
use Rattle.piles.specs.Rates.{rate_draft, rate_figures, rate_meaning}
use Rattle.piles.specs.Riders.{rider_amount, rider_draft, rider_figures, rider_line, rider_number}
use Rattle.piles.specs.Piles.{pile_meaning}
use Rattle.piles.specs.declared.rate.RateSheet.{RateSheet}
use Rattle.piles.specs.declared.rider.RiderSheet.{RiderSheet}
use Rattle.tariff.specs.Pricing.{Meaning}
use Rattle.tariff.specs.Sheets.{FigureList, IsFirstOutside}
use Rattle.exports.specs.Sheets.{described_rate, described_rider, rate_kinds, rider_kinds}
use Rattle.exports.specs.declared.failure.Failure.{Failure}
use Rattle.exports.specs.declared.failure.Failure.TheVariants.{Damaged, NoMemory, Refused}
use Rattle.exports.specs.declared.sheets.RateRecord.{RateRecord}
use Rattle.exports.specs.declared.sheets.RiderRecord.{RiderRecord}

-- the sheets are sealed from the drafts that the records describe
abbrev pub DescribesSheets : RateRecord → List RiderRecord → RateSheet → List RiderSheet → Type 0
DescribesSheets rate riders sheet sheets =
    (described_rate rate ≡ Some (rate_draft sheet))
    × (map described_rider riders ≡ map (λ rider. Some (rider_draft rider)) sheets)

-- what they mean, the riders over the rate
abbrev pub sheets_meaning : RateSheet → List RiderSheet → Meaning
sheets_meaning sheet sheets = pile_meaning rider_line rider_number rider_amount (rate_meaning sheet) sheets

-- why a record gives no sheet: its number is of no kind, or its draft is refused by its first figure outside
abbrev pub FailsToSeal : {K D : Type 0} → List K → (D → FigureList) → ℕ → Option D → Failure → Type 0
FailsToSeal kinds figures number draft Damaged = slice_get kinds number ≡ None
FailsToSeal kinds figures number draft (Refused refusal) =
    IsSomeAnd draft (λ draft. IsFirstOutside (figures draft) refusal)
FailsToSeal kinds figures number draft NoMemory = ⊥

abbrev pub RateFails : RateRecord → Failure → Type 0
RateFails rate = FailsToSeal rate_kinds rate_figures rate.rate (described_rate rate)

abbrev pub RiderFails : RiderRecord → Failure → Type 0
RiderFails rider = FailsToSeal rider_kinds rider_figures rider.rider (described_rider rider)

-- why there is no pile: the rate; else the lowest of the riders that fails, or no memory to hold the next
pub data FailsToPile (rate : RateRecord) (riders : List RiderRecord) : Failure → Type 0 where
  rate_fails : {failure : Failure} → RateFails rate failure → FailsToPile rate riders failure
  rider_fails : {failure : Failure} (k : ℕ) (rider : RiderRecord) (sheet : RateSheet)
      (beneath : List RiderSheet) → slice_get riders k ≡ Some rider
      → DescribesSheets rate (take k riders) sheet beneath → RiderFails rider failure
      → FailsToPile rate riders failure
  no_memory : (k : ℕ) (sheet : RateSheet) (beneath : List RiderSheet)
      → k < length riders → DescribesSheets rate (take k riders) sheet beneath
      → FailsToPile rate riders NoMemory
