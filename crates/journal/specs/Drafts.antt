-- Rates and riders in words: the kind of a sheet, and its figures.
use Rattle.std.specs.Prelude.{ℕ, ◌+◌, ◌==◌, ◌++◌, if◌then◌else◌, List, ◌∷◌, length, map, take, drop, ℤ, Option, Some, None, bytes_eq, codes}
use Rattle.std.specs.Fmt.{signed_decimal}
use Rattle.tariff.specs.Sheets.{FigureList}
use Rattle.tariff.specs.declared.figures.OwnFigures.{OwnFigures}
use Rattle.tariff.specs.Sheets.{values_of as figure_values}
use Rattle.piles.specs.Rates.{rate_figures, rate_from_figures, rate_kind, rate_own, rate_published}
use Rattle.piles.specs.Riders.{rider_figures, rider_from_figures, rider_kind, rider_own, rider_published}
use Rattle.piles.specs.declared.rate.RateDraft.{RateDraft}
use Rattle.piles.specs.declared.rate.RateKind.{RateKind}
use Rattle.piles.specs.declared.rate.RateKind.TheVariants.{Dts, Gts, Xts, Dos, Sts}
use Rattle.piles.specs.declared.rider.RiderDraft.{RiderDraft}
use Rattle.piles.specs.declared.rider.RiderKind.{RiderKind}
use Rattle.piles.specs.declared.rider.RiderKind.TheVariants.{Energy, Percent, Credit}
use Rattle.journal.specs.Tokens.{parsed_figure, parsed_values}
use Rattle.journal.specs.Words.{◌>>=◌, first_word}

-- the words that name kinds
abbrev pub rate_word : RateKind → List ℕ
rate_word Dts = codes "dts"
rate_word Gts = codes "gts"
rate_word Xts = codes "xts"
rate_word Dos = codes "dos"
rate_word Sts = codes "sts"

abbrev pub rate_named : List ℕ → Option RateKind
rate_named word =
    if bytes_eq word (rate_word Dts) then Some Dts
    else if bytes_eq word (rate_word Gts) then Some Gts
    else if bytes_eq word (rate_word Xts) then Some Xts
    else if bytes_eq word (rate_word Dos) then Some Dos
    else if bytes_eq word (rate_word Sts) then Some Sts
    else None

abbrev pub rider_word : RiderKind → List ℕ
rider_word Energy = codes "energy"
rider_word Percent = codes "percent"
rider_word Credit = codes "psc"

abbrev pub rider_named : List ℕ → Option RiderKind
rider_named word =
    if bytes_eq word (rider_word Energy) then Some Energy
    else if bytes_eq word (rider_word Percent) then Some Percent
    else if bytes_eq word (rider_word Credit) then Some Credit
    else None

-- the figures of a sheet as a line has them: the customer's own, and then the others
abbrev pub line_order : OwnFigures → List ℤ → List ℤ
line_order own figures =
    take own.count (drop own.first figures) ++ take own.first figures ++ drop (own.first + own.count) figures

-- and back: the figures of a line as the sheet has them
abbrev pub sheet_order : OwnFigures → List ℤ → List ℤ
sheet_order own figures = line_order (record { first = own.count; count = own.first }) figures

-- where only the customer's own figures are given, the published sheet has the others
abbrev pub complete_figures : OwnFigures → List ℤ → List ℤ → List ℤ
complete_figures own published given =
    if length given == own.count
    then given ++ take own.first published ++ drop (own.first + own.count) published
    else given

-- the draft of a kind, of the figures that a line gives
abbrev pub draft_of_figures : {K D : Type 0} → (K → OwnFigures) → (K → D) → (D → FigureList)
    → (K → List ℤ → Option D) → K → List ℤ → Option D
draft_of_figures own published figures from_figures kind given =
    let all = complete_figures (own kind) (figure_values (figures (published kind))) given in
    from_figures kind (sheet_order (own kind) all)

-- the draft that words name: the word of a kind, and figures
abbrev pub draft_of : {K D : Type 0} → (List ℕ → Option K) → (K → OwnFigures) → (K → D) → (D → FigureList)
    → (K → List ℤ → Option D) → List (List ℕ) → Option D
draft_of named own published figures from_figures words = do
  name ← first_word words
  kind ← named name.0
  given ← parsed_values parsed_figure name.1
  draft_of_figures own published figures from_figures kind given

-- the words that write a draft
abbrev pub draft_words : {K D : Type 0} → (K → List ℕ) → (D → K) → (K → OwnFigures) → (D → FigureList) → D
    → List (List ℕ)
draft_words word kind_of own figures draft =
    let kind = kind_of draft in
    word kind ∷ map signed_decimal (line_order (own kind) (figure_values (figures draft)))

abbrev pub rate_of : List (List ℕ) → Option RateDraft
rate_of words = draft_of rate_named rate_own rate_published rate_figures rate_from_figures words

abbrev pub rider_of : List (List ℕ) → Option RiderDraft
rider_of words = draft_of rider_named rider_own rider_published rider_figures rider_from_figures words

abbrev pub rate_words : RateDraft → List (List ℕ)
rate_words draft = draft_words rate_word rate_kind rate_own rate_figures draft

abbrev pub rider_words : RiderDraft → List (List ℕ)
rider_words draft = draft_words rider_word rider_kind rider_own rider_figures draft
