-- Worked months: for each what is priced, and what one line of it comes to.
use Rattle.std.specs.Prelude.{◌≡◌, ℕ, ◌-◌, List, [], ◌∷◌, ◌++◌, replicate, ℤ, pos, neg_ℤ, Ok, Err, slice_index_or}
use Rattle.tariff.specs.Capacity.{billing_capacity}
use Rattle.tariff.specs.Limits.{line_count}
use Rattle.tariff.specs.Lines.{index_of}
use Rattle.tariff.specs.Pricing.{Meaning, Outcome}
use Rattle.tariff.specs.declared.facts.PlainFacts.{PlainFacts}
use Rattle.tariff.specs.declared.hours.HourRow.{HourRow}
use Rattle.tariff.specs.declared.line.Line.{Line}
use Rattle.tariff.specs.declared.line.Line.TheVariants.{SystemEnergy, DeliveryFixed, PowerFactor, Interconnection, Losses, PrimaryServiceCredit, Riders}
use Rattle.rates.specs.Dos.{dos_2009, dos_meaning}
use Rattle.rates.specs.Dts.{dts_2007, dts_meaning}
use Rattle.rates.specs.Sts.{sts_2009, sts_meaning}
use Rattle.rates.specs.Xts.{xts_2007, xts_meaning}
use Rattle.riders.specs.Credit.{credit_amount, psc_2009}
use Rattle.riders.specs.Percent.{percent_amount}
use Rattle.riders.specs.Riders.{rider_meaning}

-- a month's billing capacity, or the cents of one line under a schedule of some meaning
pub data Worked : Type 0 where
  capacity : PlainFacts → ℕ → Worked
  line : Meaning → PlainFacts → List HourRow → Line → ℤ → Worked

-- an outcome has these cents on that line
abbrev pub Says : Line → ℤ → Outcome → Type 0
Says l cents (Ok amounts) = slice_index_or amounts (index_of l) (pos 0) ≡ cents
Says l cents (Err fault) = ⊥

abbrev pub Holds : Worked → Type 0
Holds (capacity month tenths) = billing_capacity month ≡ tenths
Holds (line meaning month hours l cents) = Says l cents (meaning month hours)

abbrev facts : ℕ → ℕ → ℕ → ℕ → ℕ → PlainFacts
facts contract substation peak peak_kva ratchet_peak =
    record {
      contract = contract;
      substation = substation;
      peak = peak;
      peak_kva = peak_kva;
      ratchet_peak = ratchet_peak;
    }

abbrev hour : ℕ → ℕ → ℕ → HourRow
hour energy price scheduled = record { energy = energy; price = price; scheduled = scheduled }

-- schedules for riders to stand over
abbrev only_line_1 : ℤ → Meaning
only_line_1 cents month hours = Ok (cents ∷ replicate (line_count - 1) (pos 0))

abbrev a_month : PlainFacts
a_month = facts 20000 30000 25000 30000 30000

abbrev pub worked_months : List Worked
worked_months =
    capacity a_month 270000
    ∷ capacity (facts 20000 30000 25000 30000 27778) 250002
    ∷ line (dts_meaning dts_2007) a_month [] DeliveryFixed (pos 1516333)
    ∷ line (dts_meaning dts_2007) a_month (replicate 7 (hour 4000000 0 0) ++ (hour 810000 0 0 ∷ []))
    SystemEnergy (pos 1015553)
    ∷ line (dts_meaning dts_2007) (facts 20000 30000 9000 10000 0) [] PowerFactor (pos 0)
    ∷ line (dts_meaning dts_2007) (facts 20000 30000 9000 10001 0) [] PowerFactor (pos 440)
    ∷ line (xts_meaning xts_2007) a_month (hour 3200000 0 1000000 ∷ []) Interconnection (pos 339300)
    ∷ line (dos_meaning (dos_2009 (pos 10000) (pos 500))) a_month (replicate 20 (hour 32000 5000 1))
    Interconnection (pos 124480)
    ∷ line (sts_meaning (sts_2009 (neg_ℤ (pos 300)) (pos 0))) a_month (hour 400000 4000 0 ∷ []) Losses
    (neg_ℤ (pos 12000))
    ∷ line (rider_meaning PrimaryServiceCredit 1 (credit_amount (psc_2009 (pos 1))) (only_line_1 (pos 0)))
    (facts 20000 20000 30000 30000 0) [] PrimaryServiceCredit (neg_ℤ (pos 3305650))
    ∷ line (rider_meaning PrimaryServiceCredit 1 (credit_amount (psc_2009 (pos 1))) (only_line_1 (pos 0)))
    (facts 20000 40000 30000 30000 0) [] PrimaryServiceCredit (neg_ℤ (pos 2298325))
    ∷ line (rider_meaning Riders 1 (percent_amount (record { number = pos 1; factor = pos 100 }))
    (only_line_1 (neg_ℤ (pos 50)))) a_month [] Riders (neg_ℤ (pos 1))
    ∷ []
