use Rattle.std.proofs.Common.{◌≡◌, ℕ, ◌+◌, ◌-◌, ◌++◌, List, length, map, get_or, drop, sym, refl, ap, ◌∙◌, arith, length-append, length-drop}
use native.Mathlib.Nat.{add-sub_cancel_left}
use Rattle.std.proofs.lemmas.List.FromFn.{length-map-range_with_len}
use Rattle.std.proofs.lemmas.List.{get_or-append_right, get_or-drop, length-map, take-append-le, take_all}
use Rattle.store.specs.Months.{earlier_peaks}
use Rattle.store.specs.Records.{first_record, record_in}
use Rattle.store.specs.Stores.{capacity_of, earlier_peaks_of, filed}
use Rattle.store.specs.declared.month.MonthRecord.{MonthRecord}
use Rattle.store.proofs.Alterations.{month_kept}
use Rattle.store.proofs.Stretches.{months_same}
use Rattle.store.proofs.store.Store.carry.Goals as goal

-- the records of the months stay, whatever stands for the 24 before them
kept : (before records : List MonthRecord) (k : ℕ) → length before ≡ 24
    → record_in (before ++ drop 24 records) k ≡ record_in records k
kept before records k many =
    get_or-append_right before (drop 24 records) 24 (24 + k) first_record many (omega arith)
    ∙ ap (λ n. get_or (drop 24 records) n first_record) (add-sub_cancel_left 24 k)
    ∙ get_or-drop 24 records k first_record

-- as many as are carried at the most
many_aged : (before : List MonthRecord) (carried : List ℕ)
    → map (λ month. month.peak) before ≡ earlier_peaks carried → length before ≡ 24
unfolding earlier_peaks
many_aged before carried are = sym (length-map before _) ∙ ap length are
    ∙ length-map-range_with_len (λ i. get_or carried (24 - 1 - i) 0) 0 24

pub invariant_of-months : goal.invariant_of-months
invariant_of-months c =
    let store = filed c.args.self.now in
    let before = c.write.new.records in
    let many = many_aged before c.args.carried.now c.write.ensures in
    record {
      recorded = length-append before (drop 24 store.records)
          ∙ omega (arith, many, length-drop 24 store.records, store.recorded);
      few = store.few;
    }

pub invariant_of-self : goal.invariant_of-self
invariant_of-self c =
    let store = filed c.args.self.now in
    let before = c.write.new.records in
    let many = many_aged before c.args.carried.now c.write.ensures in
    record {
      kept = (
        store.quarters_fit,
        store.hours_fit,
        λ k here. rw (kept before store.records k many) (store.peaks k here),
      );
    }

pub returns : goal.returns
unfolding earlier_peaks_of capacity_of
returns c =
    let store = filed c.args.self.now in
    let before = c.write.new.records in
    let many = many_aged before c.args.carried.now c.write.ensures in
    record {
      result = c.if-not-can_carry.ensures;
      before = ap (map (λ month. month.peak))
          (take-append-le 24 before _ (omega (arith, many)) ∙ take_all 24 before (omega (arith, many)))
          ∙ c.write.ensures;
      refused = tt;
      months = months_same store _ refl
          (λ k here. month_kept store _ k
          (let same = kept before store.records k many in
          record {
            days = ap (λ m. m.days) same;
            state = ap (λ m. m.state) same;
            readings = refl;
            hours =
                refl;
          }));
      capacity = refl;
      quarters = refl;
      hours = refl;
      memory = (refl, refl, refl);
    }
