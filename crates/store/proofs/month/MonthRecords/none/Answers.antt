use Rattle.std.proofs.Common.{refl, arith, rules}
use Rattle.store.specs.Months.{earlier_peaks}
use Rattle.store.specs.Stores.{earlier_peaks_of, months_of}
use Rattle.store.proofs.month.MonthRecords.none.Goals as goal

pub returns-clause-none : goal.returns-clause-none
unfolding earlier_peaks earlier_peaks_of months_of
returns-clause-none c = record {
  kept = λ quarters hours. (omega arith, omega arith, λ k below. absurd (omega (arith, below)));
  months = λ quarters hours kept. refl;
  before = λ quarters hours kept. refl;
}
