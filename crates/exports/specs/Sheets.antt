-- The drafts that records describe.
use Rattle.std.specs.Prelude.{ℕ, List, [], ◌∷◌, ℤ, Option, length, take}
use Rattle.std.specs.List.{slice_get}
use Rattle.std.specs.Option.{option_and_then}
use Rattle.tariff.specs.Sheets.{FigureList}
use Rattle.piles.specs.Rates.{rate_figures, rate_from_figures, rate_published}
use Rattle.piles.specs.Riders.{rider_figures, rider_from_figures, rider_published}
use Rattle.piles.specs.declared.rate.RateDraft.{RateDraft}
use Rattle.piles.specs.declared.rate.RateKind.{RateKind}
use Rattle.piles.specs.declared.rate.RateKind.TheVariants.{Dts, Gts, Xts, Dos, Sts}
use Rattle.piles.specs.declared.rider.RiderDraft.{RiderDraft}
use Rattle.piles.specs.declared.rider.RiderKind.{RiderKind}
use Rattle.piles.specs.declared.rider.RiderKind.TheVariants.{Energy, Percent, Credit}
use Rattle.exports.specs.declared.sheets.RateRecord.{RateRecord}
use Rattle.exports.specs.declared.sheets.RiderRecord.{RiderRecord}

-- the kinds of rates, and of riders, in the order of their numbers, from 0
abbrev pub rate_kinds : List RateKind
rate_kinds = Dts ∷ Gts ∷ Xts ∷ Dos ∷ Sts ∷ []

abbrev pub rider_kinds : List RiderKind
rider_kinds = Energy ∷ Percent ∷ Credit ∷ []

-- the draft of the kind of this number, made of as many figures as its sheet has, from the first on
abbrev pub described_draft : {K D : Type 0} → List K → (K → D) → (D → FigureList) → (K → List ℤ → Option D)
    → ℕ → List ℤ → Option D
described_draft kinds published figures from_figures number values =
    option_and_then
    (λ kind. from_figures kind (take (length (figures (published kind))) values))
    (slice_get kinds number)

abbrev pub described_rate : RateRecord → Option RateDraft
described_rate r =
    described_draft rate_kinds rate_published rate_figures rate_from_figures r.rate r.figures

abbrev pub described_rider : RiderRecord → Option RiderDraft
described_rider r =
    described_draft rider_kinds rider_published rider_figures rider_from_figures r.rider r.figures
