use Rattle.std.proofs.Common.{◌+◌, ◌*◌, ◌<◌, replicate, None, Option, sym, refl, ap, ◌∙◌, add-zero, arith}
use lib.Seq.{sets}
use Rattle.std.proofs.lemmas.List.{length-replicate}
use Rattle.std.proofs.lemmas.Bool.Decides.{nat_tests}
use Rattle.store.specs.Months.{new_hour}
use Rattle.store.specs.Stores.{capacity_of, filed}
use Rattle.store.specs.declared.post.Reading.{Reading}
use Rattle.store.proofs.Alterations.{before_kept, filed_hours_in, months_started, peak_cleared, peaks_kept, readings_in}
use Rattle.store.proofs.Stretches.{length_months}
use Rattle.store.proofs.store.Store.start.Goals as goal

pub returns-then-self-capacity-clause-result : goal.returns-then-self-capacity-clause-result
returns-then-self-capacity-clause-result c = grind (arith, nat_tests, length_months (filed c.args.self.now))

pub returns-then-days-lt-LEAST_DAYS-clause-result : goal.returns-then-days-lt-LEAST_DAYS-clause-result
returns-then-days-lt-LEAST_DAYS-clause-result c =
    grind (arith, nat_tests, length_months (filed c.args.self.now))

pub returns-clause-result : goal.returns-clause-result
returns-clause-result c = grind (arith, nat_tests, length_months (filed c.args.self.now))

pub returns-clause-months : goal.returns-clause-months
returns-clause-months c =
    let store = filed c.args.self.now in
    let k = store.started in
    let days = c.args.days in
    let few : k < 48 = omega arith in
    let written = c.clear.ensures.quarters
    ∙ ap (λ a. sets (readings_in store) a (replicate (96 * days) None)) (sym (add-zero (2976 * k))) in
    let cleared = c.clear.ensures.hours
    ∙ ap (λ a. sets (filed_hours_in store) a (replicate (24 * days) new_hour)) (sym (add-zero (744 * k))) in
    months_started store _ days _ few (omega arith) (omega arith)
    (omega arith) refl refl refl refl written cleared

pub returns-clause-before : goal.returns-clause-before
returns-clause-before c =
    before_kept (filed c.args.self.now) _ c.args.self.now.months.now.started _ (omega arith) refl

pub returns-clause-capacity : goal.returns-clause-capacity
unfolding capacity_of
returns-clause-capacity c = rw (c.clear.ensures.quarters_size, c.clear.ensures.hours_size) refl

pub invariant_of-self : goal.invariant_of-self
invariant_of-self c =
    let store = filed c.args.self.now in
    let k = store.started in
    let days = c.args.days in
    let few : k < 48 = omega arith in
    let quarters = c.clear.new.quarters in
    let many = length-replicate {A = Option Reading} (96 * days) None in
    let written = c.clear.ensures.quarters
    ∙ ap (λ a. sets (readings_in store) a (replicate (96 * days) None)) (sym (add-zero (2976 * k))) in
    record {
      kept = (
        omega (arith, c.clear.ensures.quarters_size),
        omega (arith, c.clear.ensures.hours_size),
        peaks_kept store k 0 (replicate (96 * days) None) (omega (arith, many)) quarters written _ few
            (peak_cleared quarters store.quarters k days (omega arith) written) (k + 1)
            (λ j h other. omega (arith, other)),
      );
    }
