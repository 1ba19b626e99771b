-- The published constants, in figures.
use Rattle.std.specs.Prelude.{◌≡◌, ℕ, ◌+◌, map, pos, ◌==◌, if◌then◌else◌}
use Rattle.std.specs.List.{range_with_len}
use Rattle.tariff.specs.Lines.{number_of}
use Rattle.tariff.specs.Refusals.{kind_numbers, numbers_of}
use Rattle.tariff.specs.declared.figures.TheConstants.{MOST_FIGURES}
use Rattle.tariff.specs.declared.limits.TheConstants.{MOST_CENTS, MOST_DEMAND, MOST_ENERGY, MOST_HOURS, MOST_PRICE}
use Rattle.tariff.specs.declared.line.TheConstants.{LINES}
use Rattle.tariff.specs.declared.line.TheConstants.Line.{ALL}
use Rattle.tariff.specs.declared.money.TheConstants.Fraction.{NOTHING}
use Rattle.tariff.specs.declared.refusal.Numbers.{Numbers}
use Rattle.tariff.specs.declared.refusal.TheConstants.Refusal.{KINDS}

-- those of the kind with number i + 1, its month, place and rider 0; the fault of one names line 1
abbrev pub bare_numbers : ℕ → Numbers
bare_numbers i = record (kind_numbers (i + 1)) { place = if i == 14 then 1 else 0 }

pub record Constants : Type 0 where
  -- kW or kVA; kW for fifteen minutes in an hour; cents per MWh; hours of 31 days; cents either way
  pub demand : MOST_DEMAND ≡ 1000000
  pub energy : MOST_ENERGY ≡ 4000000
  pub price : MOST_PRICE ≡ 99999
  pub hours : MOST_HOURS ≡ 744
  pub cents : MOST_CENTS ≡ 200000000000
  pub figures : MOST_FIGURES ≡ 8
  -- each line and each kind of refusal once, in the order of their numbers
  pub lines : LINES ≡ 14
  pub all : map number_of ALL ≡ map (λ i. i + 1) (range_with_len 0 14)
  pub kinds : map numbers_of KINDS ≡ map bare_numbers (range_with_len 0 19)
  pub nothing : NOTHING ≡ record { numerator = pos 0; divisor = 1 }
