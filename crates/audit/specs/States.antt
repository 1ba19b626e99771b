-- How far the months of a book have come, and the calls that take them on.
use Rattle.std.specs.Prelude.{◌≡◌, ℕ, ◌<◌, ◌≤◌, true, List, ◌↔◌}
use Rattle.book.specs.Calls.{Call, posts, posts_day, bills, trues_up, finalises}
use Rattle.book.specs.Views.{View, month_has_reached, is_month}
use Rattle.store.specs.declared.month.State.TheVariants.{Billed, Final}
use Rattle.audit.specs.Histories.{HasAccepted, Turn}

-- a month that was billed; a final one counts as billed
abbrev pub IsBilled : ℕ → View → Type 0
IsBilled m v = (is_month m v ≡ true) × (month_has_reached Billed m v ≡ true)

-- a month that was made final
abbrev pub IsFinal : ℕ → View → Type 0
IsFinal m v = (is_month m v ≡ true) × (month_has_reached Final m v ≡ true)

-- the month that a post, a bill, a true-up or a finalise is of; 0, which no month is, for the other calls
abbrev pub month_changed : Call → ℕ
month_changed (posts m place post) = m
month_changed (posts_day m day code readings) = m
month_changed (bills m) = m
month_changed (trues_up m) = m
month_changed (finalises m) = m
month_changed _ = 0

-- the months, by their numbers from 1, have come as far as the accepted calls took them
pub record HasStates (turns : List Turn) (v : View) : Type 0 where
  pub billed : (m : ℕ) → 1 ≤ m → IsBilled m v ↔ HasAccepted (bills m) turns
  pub final : (m : ℕ) → 1 ≤ m → IsFinal m v ↔ HasAccepted (finalises m) turns
  -- only a billed month is final; months are billed, and made final, in their order
  pub final_billed : (m : ℕ) → IsFinal m v → IsBilled m v
  pub billed_in_order : (m n : ℕ) → IsBilled m v → 1 ≤ n → n < m → IsBilled n v
  pub final_in_order : (m n : ℕ) → IsFinal m v → 1 ≤ n → n < m → IsFinal n v
