-- The figures of a sheet and the limits within which it can be sealed.
use Rattle.std.specs.Prelude.{◌≡◌, ℕ, ◌+◌, ◌<◌, ◌==◌, List, length, map, take, ℤ, pos, ◌≤ℤ◌, Option, Some, None, if◌then◌else◌, slice_index_or}
use Rattle.tariff.specs.Limits.{WithinUpTo}
use Rattle.tariff.specs.declared.refusal.Refusal.{Refusal}
use Rattle.tariff.specs.declared.refusal.Refusal.TheVariants.{FigureOutside}
use Rattle.tariff.specs.declared.figure.Figure.{Figure}
use Rattle.tariff.specs.declared.figures.Figures.{Figures}
use Rattle.tariff.specs.declared.figures.OwnFigures.{OwnFigures}

-- the figures of a sheet in their order
abbrev pub FigureList : Type 0
FigureList = List Figure

-- no figure is the customer's own
abbrev pub no_own : OwnFigures
no_own = record { first = 0; count = 0 }

abbrev pub figure_list : Figures → FigureList
figure_list figures = take figures.count figures.places

abbrev pub values_of : FigureList → List ℤ
values_of figures = map (λ figure. figure.value) figures

abbrev pub value_at : List ℤ → ℕ → ℤ
value_at values place = slice_index_or values place (pos 0)

-- a draft, where just as many figures are given for it as it has
abbrev pub complete_draft : {D : Type 0} → (D → FigureList) → List ℤ → D → Option D
complete_draft figures values draft = if length values == length (figures draft) then Some draft else None

abbrev pub FigureWithin : Figure → Type 0
FigureWithin figure = (figure.low ≤ℤ figure.value) × (figure.value ≤ℤ figure.high)

abbrev pub between : ℤ → ℤ → ℤ → Figure
between low high value = record { value = value; low = low; high = high }

-- a figure that is not negative and at most so much
abbrev pub up_to : ℕ → ℤ → Figure
up_to most = between (pos 0) (pos most)

-- what is read past the last figure
abbrev pub no_figure : Figure
no_figure = up_to 0 (pos 0)

abbrev pub FiguresWithin : FigureList → Type 0
FiguresWithin figures = (k : ℕ) → FigureWithin (slice_index_or figures k no_figure)

-- the refusal names the first figure outside its limits, counted from 1
abbrev pub IsFirstOutside : FigureList → Refusal → Type 0
IsFirstOutside figures refusal =
    (before : ℕ) × WithinUpTo FigureWithin figures before × (before < length figures) ×
    (refusal ≡ FigureOutside (before + 1))
