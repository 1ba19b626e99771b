-- The constants that definitions use, in figures.
use Rattle.std.specs.Prelude.{◌≡◌}
use Rattle.store.specs.declared.carried.TheConstants.{RATCHET}
use Rattle.store.specs.declared.memory.TheConstants.{DAY_HOURS, DAY_QUARTERS, MONTH_HOURS, MONTH_QUARTERS}
use Rattle.store.specs.declared.month.TheConstants.{LEAST_DAYS, MOST_DAYS, MOST_MONTHS}
use Rattle.store.specs.declared.report.TheConstants.{PAST_QUARTERS}

pub record Constants : Type 0 where
  pub day_quarters : DAY_QUARTERS ≡ 96
  pub day_hours : DAY_HOURS ≡ 24
  pub least_days : LEAST_DAYS ≡ 28
  pub most_days : MOST_DAYS ≡ 31
  pub month_quarters : MONTH_QUARTERS ≡ 2976
  pub month_hours : MONTH_HOURS ≡ 744
  -- months that the ratchet looks back; months of a store
  pub ratchet : RATCHET ≡ 24
  pub most_months : MOST_MONTHS ≡ 48
  -- where a refusal's place counts hours and not quarters
  pub past_quarters : PAST_QUARTERS ≡ 3000
