use Rattle.std.proofs.Common.{ℕ, zero, suc, get_or, replicate, refl, lit≤}
use Rattle.tariff.specs.Limits.{HourWithin, most_hours, no_row}
use Rattle.store.proofs.report.blank_rows.Goals as goal

-- each place of blank rows, and past their end
blank_within : HourWithin no_row → (n k : ℕ) → HourWithin (get_or (replicate n no_row) k no_row)
blank_within blank zero k = blank
blank_within blank (suc n) zero = blank
blank_within blank (suc n) (suc k) = blank_within blank n k

pub returns : goal.returns
returns c = record { room = refl; within = blank_within (lit≤ tt, lit≤ tt, lit≤ tt) most_hours }
