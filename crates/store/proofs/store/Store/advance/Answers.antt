use Rattle.std.proofs.Common.{◌≡◌, ◌+◌, ◌<◌, true, false, refl, ap, sym, ◌∙◌, arith, rules}
use Rattle.std.proofs.lemmas.List.{get_or_default}
use Rattle.store.specs.Months.{advanced, has_reached}
use Rattle.store.specs.Records.{first_record, record_in}
use Rattle.store.specs.Stores.{capacity_of, filed}
use Rattle.store.proofs.Alterations.{before_kept, month_advanced, month_past, month_reached, months_with_state}
use Rattle.store.proofs.store.Store.advance.Goals as goal

pub returns-then-k-self-clause-month : goal.returns-then-k-self-clause-month
returns-then-k-self-clause-month c =
    month_past (filed c.args.self.now) c.args.k (advanced c.args.state) c.if-k-self.true

pub returns-then-not-has_reached-clause-month : goal.returns-then-not-has_reached-clause-month
unfolding capacity_of
returns-then-not-has_reached-clause-month c =
    let store = filed c.args.self.now in
    let k = c.args.k in
    let there : k < store.started = omega (arith, c.if-k-self.false) in
    let read = get_or_default store.records (24 + k) c.index-self-k.result first_record (omega arith) in
    let kept = get_or_default store.records (24 + k) c.index-self-k-then-not-has_reached.result first_record
    (omega arith) in
    let short : has_reached c.args.state (record_in store.records k).state ≡ false =
    ap (λ m. has_reached c.args.state m.state) (sym read) ∙ sym c.has_reached.ensures ∙ search rules in
    record {
      months = months_with_state store _ k _ (omega arith) refl c.args.state there refl refl refl
          (ap (λ m. m.days) kept) refl
          ∙ month_advanced store k c.args.state there short;
      before = before_kept store _ k _ (omega arith) refl;
      capacity = refl;
    }

pub returns-else-not-has_reached-clause-month : goal.returns-else-not-has_reached-clause-month
returns-else-not-has_reached-clause-month c =
    let store = filed c.args.self.now in
    let k = c.args.k in
    let there : k < store.started = omega (arith, c.if-k-self.false) in
    let read = get_or_default store.records (24 + k) c.index-self-k.result first_record (omega arith) in
    let reached : has_reached c.args.state (record_in store.records k).state ≡ true =
    ap (λ m. has_reached c.args.state m.state) (sym read) ∙ sym c.has_reached.ensures ∙ search rules in
    month_reached store k c.args.state there reached
