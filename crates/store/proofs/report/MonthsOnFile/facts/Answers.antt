use Rattle.std.proofs.Common.{ap, refl, arith, ◌∙◌}
use Rattle.store.specs.Facts.{facts_of_month}
use Rattle.store.specs.Stores.{filed_in, month_in}
use Rattle.store.proofs.Peaks.{peak_kva_read, peak_under_kva}
use Rattle.store.proofs.Stretches.{length_months}
use Rattle.store.proofs.Views.{earlier_recorded, peak_recorded}
use Rattle.store.proofs.report.MonthsOnFile.facts.Goals as goal

pub invariant_of-result-clause-demand : goal.invariant_of-result-clause-demand
invariant_of-result-clause-demand c =
    let store = filed_in c.args.self.now in
    let k = c.args.k in
    let month = month_in store k in
    let read = c.readings.ensures.read in
    let kw = ap (λ m. m.peak) c.in_ok-month.ensures.1 ∙ peak_recorded store k c.in_ok-month.ensures.0 in
    let kva = c.highest_of.ensures.counted ∙ peak_kva_read month _ read in
    (rw (kw, kva) (peak_under_kva month _ read), c.highest_of.ensures.within, c.highest_of-2.ensures.within)

pub returns : goal.returns
unfolding facts_of_month
returns c =
    let store = filed_in c.args.self.now in
    let k = c.args.k in
    let here = c.in_ok-month.ensures.0 in
    let kw = ap (λ m. m.peak) c.in_ok-month.ensures.1 ∙ peak_recorded store k here in
    let kva = c.highest_of.ensures.counted ∙ peak_kva_read (month_in store k) _ c.readings.ensures.read in
    let ratchet = c.highest_of-2.ensures.counted ∙ earlier_recorded store k here in
    record {
      there = (λ _. omega (arith, length_months store, here), λ _. refl);
      facts = rw (kw, kva, ratchet) refl;
    }

pub returns-in_err-month : goal.returns-in_err-month
returns-in_err-month c =
    let many = length_months (filed_in c.args.self.now) in
    rw c.from_residual.ensures (record {
      there = (
        λ some. absurd (cc),
        λ there. absurd (omega (arith, many, there, c.in_err-month.ensures)),
      );
      facts = tt;
    })
