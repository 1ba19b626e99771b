-- The month that a call names, and what refuses the call where it is not there or not to be changed.
use Rattle.std.specs.Prelude.{◌≡◌, ℕ, ◌<◌, true, false, List, length, Some}
use Rattle.store.specs.declared.month.State.TheVariants.{Final}
use Rattle.tariff.specs.declared.refusal.Refusal.{Refusal}
use Rattle.book.specs.Books.{point_of}
use Rattle.book.specs.Table.{Row, changeable_rows, first_holding, month_rows}
use Rattle.book.specs.Views.{View, month_has_reached, is_month, month_at, month_index}
use Rattle.book.specs.declared.book.NamedMonth.{NamedMonth}

-- a month of an opened book
pub record IsInBook (m : ℕ) (v : View) (named : NamedMonth) : Type 0 where
  pub month : named.month ≡ m
  pub point : v.point ≡ point_of (Some named.point)
  pub started : is_month m v ≡ true
  pub there : named.index < length v.months
  pub index : named.index ≡ month_index m
  pub number : named.number ≡ m
  pub days : named.days ≡ (month_at m v).days
  pub state : named.state ≡ (month_at m v).state

-- refused by the rows that every call with a month begins with, whatever rows follow
abbrev pub RefusesMonth : ℕ → View → Refusal → Type 0
RefusesMonth m v refusal =
    (rows : List Row) → first_holding (month_rows m v rows) ≡ Some refusal

-- a month that is not final
abbrev pub IsChangeable : ℕ → View → NamedMonth → Type 0
IsChangeable m v named = IsInBook m v named × (month_has_reached Final m v ≡ false)

abbrev pub RefusesChange : ℕ → View → Refusal → Type 0
RefusesChange m v refusal =
    (rows : List Row) → first_holding (changeable_rows m v rows) ≡ Some refusal
