-- The months of a store, one by one.
use Rattle.std.proofs.Common.{◌≡◌, ℕ, ◌+◌, ◌-◌, ◌*◌, ◌<◌, ◌≤◌, min, ltb, Bool, List, [], ◌++◌, map, length, get_or, take, drop, Some, None, Option, sym, refl, ap, ◌∙◌, inl, inr, arith}
use native.Mathlib.Nat.{add-sub_cancel_left}
use Rattle.std.proofs.Math.Nat.{mul-zero}
use mathlib.Core.List.{map-append, map-map}
use Rattle.std.specs.Prelude.{◌↔◌, IfSome, IsSome, MatchOption, is_some}
use Rattle.std.specs.Borrow.{Bor}
use Rattle.std.specs.Option.{option_copied}
use Rattle.std.specs.List.{range_with_len, prefix_len}
use Rattle.std.proofs.lemmas.List.FromFn.{fill_by_all}
use Rattle.std.proofs.lemmas.Bool.{cases_lt, ltb-false, ltb-true}
use Rattle.std.proofs.lemmas.List.{drop-map, length-drop, length-take, get_or-drop, get_or-take, get_or_default, get_or-map, get_or_past, length-map, take-map}
use Rattle.store.specs.Months.{Month, ratchet_peak, first_short_month, new_month, hours_of, kw_of, no_month, peak, quarters_of, has_reached, top}
use Rattle.store.specs.declared.carried.TheConstants.{RATCHET}
use Rattle.store.specs.declared.memory.TheConstants.{MONTH_HOURS, MONTH_QUARTERS}
use Rattle.store.specs.Records.{first_record, hour_of, peak_in, reading_of, record_in, stretch}
use Rattle.store.specs.Stores.{earlier_peaks_of, Filed, month_of, months_of}
use Rattle.store.specs.declared.month.TheConstants.{MOST_DAYS}
use Rattle.store.specs.declared.month.MonthRecord.{MonthRecord}
use Rattle.store.specs.declared.month.State.{State}
use Rattle.store.proofs.Stretches.{get_or_months, length_months}
use Rattle.store.proofs.Windows.{leading_map, part_counted, take_counted, take_two, window}

module _ (store : Filed) where
  pub month_past : (k : ℕ) → store.started ≤ k → get_or (months_of store) k no_month ≡ no_month
  month_past k past = get_or_past (months_of store) k no_month (rw (length_months store) past)

  -- the record of a started month
  pub month_recorded : (k : ℕ) (d : MonthRecord) → k < store.started
      → get_or (take store.started (drop RATCHET store.records)) k d ≡ record_in store.records k
  month_recorded k d here =
      get_or-take store.started (drop RATCHET store.records) k d here
      ∙ get_or-drop RATCHET store.records k d
      ∙ get_or_default store.records (RATCHET + k) d first_record (omega arith)

  -- the days of a month on file are those of its record
  pub days_recorded : (k : ℕ) → k < store.started
      → (get_or (months_of store) k no_month).days ≡ (record_in store.records k).days
  unfolding month_of
  days_recorded k here = ap (λ m. m.days) (get_or_months store k no_month here)

  pub no_days : (k : ℕ) → store.started ≤ k → (get_or (months_of store) k no_month).days ≡ 0
  unfolding no_month new_month
  no_days k past = ap (λ m. m.days) (month_past k past)

  -- a part of memory with so many items a day: past the last month it is none
  pub nothing_past : {X : Type 0} (room a_day k : ℕ) (memory : List X) → store.started ≤ k
      → [] ≡ stretch room k (a_day * (get_or (months_of store) k no_month).days) memory
  unfolding stretch
  nothing_past room a_day k memory past = rw (no_days k past, mul-zero a_day) refl

  -- the stretches of a month are its readings and its hours; past the last month there is none
  pub readings_read : (k : ℕ)
      → map reading_of (stretch MONTH_QUARTERS k
      (quarters_of (get_or (months_of store) k no_month).days) store.quarters)
      ≡ (get_or (months_of store) k no_month).readings
  unfolding month_of no_month new_month stretch
  readings_read k =
      elim (cases_lt k store.started) [
        | inl here ↦ rw (get_or_months store k no_month here) refl
        | inr past ↦ rw (month_past k past) refl
      ]

  pub hours_read : (k : ℕ)
      → map hour_of (stretch MONTH_HOURS k
      (hours_of (get_or (months_of store) k no_month).days) store.hours)
      ≡ (get_or (months_of store) k no_month).hours
  unfolding month_of no_month new_month stretch
  hours_read k =
      elim (cases_lt k store.started) [
        | inl here ↦ rw (get_or_months store k no_month here) refl
        | inr past ↦ rw (month_past k past) refl
      ]

  -- the first month short of a state, by the records
  pub first_short_counted : (state : State) (k : ℕ)
      → prefix_len (λ month. has_reached state month.state)
      (take k (take store.started (drop RATCHET store.records))) ≡ first_short_month state (months_of store) k
  unfolding months_of month_of
  first_short_counted state k =
      let of_record : MonthRecord → Bool = λ month. has_reached state month.state in
      let of_month : Month → Bool = λ month. has_reached state month.state in
      let n = min store.started k in
      let records = part_counted store.records RATCHET store.started first_record (omega arith) in
      rw (
        records,
        take_counted (record_in store.records) store.started k n refl,
        take_counted (month_of store) store.started k n refl,
      )
      (leading_map of_record (record_in store.records) (range_with_len 0 n)
      ∙ sym (leading_map of_month (month_of store) (range_with_len 0 n)))

  -- the peak kept for a month is the highest kW of its readings
  pub peak_kept : (k : ℕ) → k < store.started → peak (month_of store k) ≡ (record_in store.records k).peak
  unfolding month_of peak peak_in
  peak_kept k here = ap top (map-map kw_of reading_of _) ∙ sym (store.peaks k here)

  pub peak_recorded : (k : ℕ) → k < store.started
      → (record_in store.records k).peak ≡ peak (get_or (months_of store) k no_month)
  peak_recorded k here = sym (ap peak (get_or_months store k no_month here) ∙ peak_kept k here)

  peaks_kept : map peak (months_of store) ≡ map (λ month. month.peak)
      (take store.started (drop RATCHET store.records))
  peaks_kept =
      let kept : ℕ → ℕ = λ j. (record_in store.records j).peak in
      fill_by_all kept (map peak (months_of store)) store.started 0
      (length-map (months_of store) peak ∙ length_months store)
      (λ k here. get_or-map peak (months_of store) k no_month 0 (rw (length_months store) here)
      ∙ (ap peak (get_or_months store k no_month here) ∙ peak_kept k here))
      ∙ sym (ap (map (λ month. month.peak))
      (part_counted store.records RATCHET store.started first_record (omega arith)) ∙ map-map _ _ _)

  pub peaks_recorded : earlier_peaks_of store ++ map peak (months_of store) ≡ map (λ month. month.peak)
      (take (RATCHET + store.started) store.records)
  unfolding earlier_peaks_of
  peaks_recorded =
      rw (peaks_kept, sym (take_two RATCHET store.started store.records))
      (sym (map-append (λ month. month.peak) (take RATCHET store.records)
      (take store.started (drop RATCHET store.records))))

  -- the highest peak before a month, by the 24 records before its own
  pub earlier_recorded : (k : ℕ) → k < store.started
      → top (map (λ month. month.peak) (take (k + RATCHET - k) (drop k store.records))) ≡ ratchet_peak
      (earlier_peaks_of store) (months_of store) k
  unfolding ratchet_peak
  earlier_recorded k here =
      let fits : k + RATCHET ≤ RATCHET + store.started = omega arith in
      rw (
        peaks_recorded,
        drop-map,
        take-map,
        window k RATCHET (RATCHET + store.started) store.records fits,
        add-sub_cancel_left k RATCHET,
      )

  -- the record of a month, and what it says of the months
  pub month_found : (k : ℕ) (records : List MonthRecord) (found : Option (Bor MonthRecord))
      → records ≡ take store.started (drop RATCHET store.records) → is_some found ≡ ltb k (length records)
      → IfSome found (λ month. month.now ≡ get_or records k month.now)
      → MatchOption (option_copied found) (store.started ≤ k)
      (λ month. (k < store.started) × (month ≡ record_in store.records k))
  month_found k records (Some month) are there read =
      let many : length records ≡ store.started = ap length are
      ∙ simp (length-take, length-drop) (omega arith) in
      let here : k < store.started = omega (arith, ltb-true k (length records) (sym there), many) in
      (here, read ∙ ap (λ months. get_or months k month.now) are ∙ month_recorded k month.now here)
  month_found k records None are there read =
      let many : length records ≡ store.started = ap length are
      ∙ simp (length-take, length-drop) (omega arith) in
      omega (arith, ltb-false k (length records) (sym there), many)

  pub record_found : (k : ℕ) (found : Option MonthRecord)
      → MatchOption found (store.started ≤ k)
      (λ month. (k < store.started) × (month ≡ record_in store.records k))
      → let month = get_or (months_of store) k no_month in (IsSome found ↔ (k < length (months_of store)))
      × IfSome found (λ m. m.days ≡ month.days) × IfSome found (λ m. m.state ≡ month.state)
      × IfSome found (λ m. m.peak ≡ peak month)
  unfolding month_of
  record_found k (Some month) kept =
      rw (get_or_months store k no_month kept.0) (
        (λ some. omega (arith, length_months store, kept.0), λ there. refl),
        ap (λ m. m.days) kept.1,
        ap (λ m. m.state) kept.1,
        ap (λ m. m.peak) kept.1 ∙ sym (peak_kept k kept.0),
      )
  record_found k None past =
      ((λ some. absurd (cc), λ there. absurd (omega (arith, length_months store, past, there))), tt, tt, tt)

  pub days_found : (k days : ℕ) (found : Option MonthRecord)
      → (IsSome found ↔ (k < length (months_of store)))
      → IfSome found (λ m. m.days ≡ (get_or (months_of store) k no_month).days)
      → MatchOption found (days ≡ 0) (λ m. days ≡ m.days)
      → (days ≡ (get_or (months_of store) k no_month).days) × (days ≤ MOST_DAYS)
      × (0 < days → k < store.started)
  days_found k days (Some month) there kept are = (
    are ∙ kept,
    omega (arith, are, month.length.1),
    λ some. omega (arith, there.0 refl, length_months store),
  )
  days_found k days None there kept are =
      elim (cases_lt k store.started) [
        | inl here ↦ absurd (let some = there.1 (omega (arith, length_months store)) in cc)
        | inr past ↦ (are ∙ sym (no_days k past), omega (arith, are), λ some. absurd (omega (arith, are)))
      ]
