-- The months of a store after a post to one of them.
use Rattle.std.proofs.Common.{◌≡◌, ℕ, ◌+◌, ◌*◌, ◌<◌, ◌≤◌, true, false, ◌≢◌, List, [], ◌∷◌, ◌++◌, map, length, get_or, set, replicate, Some, None, Option, sym, refl, ap, ap₂, ◌∙◌, inl, inr, arith}
use lib.LanesLaws.{map-replicate}
use lib.Seq.{sets}
use mathlib.Core.List.{map-map}
use Rattle.std.proofs.lemmas.List.{get_or-map, get_or-set_other, get_or-set_same, length-map, length-replicate, length-set, map-set, set-get_or, set_past, take-set-le}
use Rattle.std.proofs.lemmas.Bool.{cases_eq, cond-false, cond-true}
use Rattle.store.specs.Months.{HourOnFile, Month, advanced, has_reached, months_with, new_hour, new_month, hours_of, kw_of, no_month, quarters_of, top, with_state}
use Rattle.store.specs.Posts.{with_hour, with_readings}
use Rattle.store.specs.declared.memory.TheConstants.{MONTH_HOURS, MONTH_QUARTERS}
use Rattle.store.specs.declared.month.TheConstants.{MOST_MONTHS}
use Rattle.store.specs.declared.carried.TheConstants.{RATCHET}
use Rattle.store.specs.Records.{first_record, hour_of, peak_in, reading_of, record_in, stretch}
use Rattle.store.specs.Stores.{Alters, capacity, capacity_of, earlier_peaks_of, Filed, month_of, months_of}
use Rattle.store.specs.declared.month.MonthRecord.{MonthRecord}
use Rattle.store.specs.declared.memory.Hour.{Hour}
use Rattle.store.specs.declared.memory.Quarter.{Quarter}
use Rattle.store.specs.declared.post.Reading.{Reading}
use Rattle.store.specs.declared.month.State.{State}
use Rattle.store.specs.declared.month.State.TheVariants.{Open}
use Rattle.store.proofs.Peaks.{top_replicate}
use Rattle.store.proofs.Stretches.{get_or_months, get_or_stretch, length_months, months_altered, months_pushed, stretch_cleared, stretch_map, stretch_set, stretch_set_other, stretch_sets, stretch_sets_other}

abbrev pub record_at : Filed → ℕ → MonthRecord
record_at s k = record_in s.records k

abbrev pub readings_in : Filed → List (Option Reading)
readings_in s = map reading_of s.quarters

abbrev pub filed_hours_in : Filed → List HourOnFile
filed_hours_in s = map hour_of s.hours

abbrev pub readings_at : Filed → ℕ → ℕ → List (Option Reading)
readings_at s k days = stretch MONTH_QUARTERS k (quarters_of days) (readings_in s)

abbrev pub hours_at : Filed → ℕ → ℕ → List HourOnFile
hours_at s k days = stretch MONTH_HOURS k (hours_of days) (filed_hours_in s)

-- a month by its parts, the rest as in any month that a store has at that place
pub month_parts : (s base : Filed) (k : ℕ) (days : ℕ) (state : State) (readings : List (Option Reading))
    (hours : List HourOnFile) → (record_at s k).days ≡ days → (record_at s k).state ≡ state
    → readings_at s k days ≡ readings → hours_at s k days ≡ hours
    → month_of s k ≡ record (month_of base k) {
      days = days;
      state = state;
      readings = readings;
      hours =
          hours;
    }
unfolding month_of
month_parts s base k days state readings hours d e f g =
    let own = stretch_map reading_of MONTH_QUARTERS k
    (quarters_of (record_at s k).days) s.quarters in
    let own' = stretch_map hour_of MONTH_HOURS k (hours_of (record_at s k).days) s.hours in
    cc

month_read : (s : Filed) (k : ℕ)
    → month_of s k ≡ record (month_of s k) {
      days = (record_at s k).days;
      state = (record_at s k).state;
      readings = readings_at s k (record_at s k).days;
      hours = hours_at s k (record_at s k).days;
    }
month_read s k = month_parts s s k _ _ _ _ refl refl refl refl

-- a month that a post to another leaves as it was
pub record KeepsMonth (s t : Filed) (k : ℕ) : Type 0 where
  pub days : (record_at t k).days ≡ (record_at s k).days
  pub state : (record_at t k).state ≡ (record_at s k).state
  pub readings : readings_at t k (record_at s k).days ≡ readings_at s k (record_at s k).days
  pub hours : hours_at t k (record_at s k).days ≡ hours_at s k (record_at s k).days

pub month_kept : (s t : Filed) (k : ℕ) → KeepsMonth s t k → month_of t k ≡ month_of s k
month_kept s t k same = month_parts t s k _ _ _ _ same.days same.state same.readings same.hours
    ∙ sym (month_read s k)

-- nothing is written past the last month
pub month_past : (s : Filed) (k : ℕ) (alter : Month → Month) → s.started ≤ k → Alters k alter s s
month_past s k alter past =
    let same = set_past (months_of s) k (alter (get_or (months_of s) k no_month))
    (omega (arith, length_months s)) in
    record { months = sym same; before = refl; capacity = refl }

-- a month that has come as far stays, one that has not is taken on
module _ (s : Filed) (k : ℕ) (state : State) where
  pub state_recorded : k < s.started → (get_or (months_of s) k no_month).state ≡ (record_at s k).state
  unfolding month_of
  state_recorded there = ap (λ m. m.state) (get_or_months s k no_month there)

  pub month_reached : k < s.started → has_reached state (record_at s k).state ≡ true
      → Alters k (advanced state) s s
  month_reached there reached =
      let month = get_or (months_of s) k no_month in
      let same : advanced state month ≡ month =
      cond-true (has_reached state month.state) month (with_state state month)
      (ap (has_reached state) (state_recorded there) ∙ reached) in
      record {
        months = sym (ap (set (months_of s) k) same ∙ set-get_or (months_of s) k no_month);
        before = refl;
        capacity = refl;
      }

  pub month_advanced : k < s.started → has_reached state (record_at s k).state ≡ false
      → months_with k (with_state state) (months_of s) ≡ months_with k (advanced state) (months_of s)
  month_advanced there short =
      let month = get_or (months_of s) k no_month in
      ap (set (months_of s) k)
      (sym (cond-false (has_reached state month.state) month (with_state state month)
      (ap (has_reached state) (state_recorded there) ∙ short)))

-- one hour written
module _ (s t : Filed) (k at : ℕ) (there : k < s.started) (below : at < hours_of (record_at s k).days)
    (change : HourOnFile → HourOnFile) (hour d : Hour) (started : t.started ≡ s.started)
    (records : t.records ≡ s.records) (quarters : t.quarters ≡ s.quarters)
    (hours : t.hours ≡ set s.hours (MONTH_HOURS * k + at) hour)
    (is : hour_of hour ≡ change (hour_of (get_or s.hours (MONTH_HOURS * k + at) d))) where
  old_hour : get_or (month_of s k).hours at new_hour ≡ hour_of
      (get_or s.hours (MONTH_HOURS * k + at) d)
  old_hour =
      ap (λ m. get_or m.hours at new_hour) (month_read s k)
      ∙ get_or_stretch MONTH_HOURS k (hours_of (record_at s k).days) (filed_hours_in s) at new_hour below
      ∙ get_or-map hour_of s.hours (MONTH_HOURS * k + at) d new_hour
      (omega (arith, (record_at s k).length.1, s.hours_fit))

  written : filed_hours_in t ≡ set (filed_hours_in s) (MONTH_HOURS * k + at) (hour_of hour)
  written = ap (map hour_of) hours ∙ map-set hour_of s.hours (MONTH_HOURS * k + at) hour

  kept : readings_in t ≡ readings_in s
  kept = ap (map reading_of) quarters

  own_hour : month_of t k ≡ with_hour at change (month_of s k)
  own_hour =
      let old = old_hour in
      let read = ap (λ m. m.hours) (month_read s k) in
      let same = month_read s k in
      let own = stretch_set MONTH_HOURS k (hours_of (record_at s k).days) (filed_hours_in s) at
      (hour_of hour) below in
      month_parts t s k (record_at s k).days (record_at s k).state (readings_at s k (record_at s k).days)
      (set (hours_at s k (record_at s k).days) at (hour_of hour))
      (ap (λ rs. (get_or rs (RATCHET + k) first_record).days) records)
      (ap (λ rs. (get_or rs (RATCHET + k) first_record).state) records)
      (rw kept refl) (rw written own)
      ∙ cc

  other_month : (j : ℕ) → j < s.started → j ≢ k → month_of t j ≡ month_of s j
  other_month j started' other = month_kept s t j record {
    days = ap (λ rs. (get_or rs (RATCHET + j) first_record).days) records;
    state = ap (λ rs. (get_or rs (RATCHET + j) first_record).state) records;
    readings = rw kept refl;
    hours = rw written (stretch_set_other MONTH_HOURS j k (hours_of (record_at s j).days) (filed_hours_in s)
        at (hour_of hour) other (omega (arith, (record_at s j).length.1))
        (omega (arith, (record_at s k).length.1)));
  }

  pub alters_hour : Alters k (with_hour at change) s t
  unfolding earlier_peaks_of capacity_of
  alters_hour = record {
    months = months_altered s t k (with_hour at change) started there own_hour other_month;
    before = rw records refl;
    capacity = ap₂ capacity (ap length quarters) (ap length hours ∙ length-set _ _ _);
  }

-- the record of one month written
module _ (s t : Filed) (k : ℕ) (r : MonthRecord) (few : k < MOST_MONTHS)
    (written : t.records ≡ set s.records (RATCHET + k) r) where
  pub record_own : record_at t k ≡ r
  record_own = rw written (get_or-set_same s.records (RATCHET + k) r first_record (omega arith))

  pub record_other : (j : ℕ) → j ≢ k → record_at t j ≡ record_at s j
  record_other j other = rw written
      (get_or-set_other s.records (RATCHET + k) (RATCHET + j) r first_record (λ e. other (omega arith)))

  pub before_kept : earlier_peaks_of t ≡ earlier_peaks_of s
  unfolding earlier_peaks_of
  before_kept = rw written
      (ap (map (λ month. month.peak)) (take-set-le RATCHET s.records (RATCHET + k) r (omega arith)))

  -- the state alone
  pub months_with_state : (state : State) → k < s.started → t.started ≡ s.started → t.quarters ≡ s.quarters
      → t.hours ≡ s.hours
      → r.days ≡ (record_at s k).days → r.state ≡ state
      → months_of t ≡ months_with k (with_state state) (months_of s)
  months_with_state state there started quarters hours days now_state =
      let own = record_own in
      months_altered s t k (with_state state) started there
      (month_parts t s k _ _ _ _ (ap (λ m. m.days) own ∙ days) (ap (λ m. m.state) own ∙ now_state)
      (ap (λ qs. stretch MONTH_QUARTERS k (quarters_of (record_at s k).days) (map reading_of qs)) quarters)
      (ap (λ hs. stretch MONTH_HOURS k (hours_of (record_at s k).days) (map hour_of hs)) hours)
      ∙ sym (ap (with_state state) (month_read s k)))
      (λ j below other. month_kept s t j record {
        days = ap (λ m. m.days) (record_other j other);
        state = ap (λ m. m.state) (record_other j other);
        readings = ap (λ qs. stretch MONTH_QUARTERS j (quarters_of (record_at s j).days)
            (map reading_of qs)) quarters;
        hours = ap (λ hs. stretch MONTH_HOURS j (hours_of (record_at s j).days) (map hour_of hs)) hours;
      })

-- readings written in a row, with the month's record
pub peak_readings : (quarters : List Quarter) (k days : ℕ)
    → peak_in quarters k days ≡ top
    (map kw_of (stretch MONTH_QUARTERS k (quarters_of days) (map reading_of quarters)))
unfolding peak_in
peak_readings quarters k days =
    ap top (sym (map-map kw_of reading_of (stretch MONTH_QUARTERS k (quarters_of days) quarters))
    ∙ ap (map kw_of) (stretch_map reading_of MONTH_QUARTERS k (quarters_of days) quarters))

module _ (s : Filed) (k at : ℕ) (posted : List (Option Reading))
    (fits : at + length posted ≤ MONTH_QUARTERS) (quarters : List Quarter)
    (written : map reading_of quarters ≡ sets (readings_in s) (MONTH_QUARTERS * k + at) posted) where
  other_readings : (j : ℕ) → j < s.started → j ≢ k
      → stretch MONTH_QUARTERS j (quarters_of (record_at s j).days) (map reading_of quarters)
      ≡ readings_at s j (record_at s j).days
  other_readings j there other =
      rw written (stretch_sets_other MONTH_QUARTERS j k (quarters_of (record_at s j).days)
      (readings_in s) at posted other (omega (arith, (record_at s j).length.1)) fits)

  -- the peaks kept stay those of their stretches, in a store of n months
  pub peaks_kept : (month : MonthRecord) → k < MOST_MONTHS → month.peak ≡ peak_in quarters k month.days
      → (n : ℕ) → ((j : ℕ) → j < n → j ≢ k → j < s.started) → (j : ℕ) → j < n
      → (get_or (set s.records (RATCHET + k) month) (RATCHET + j) first_record).peak ≡ peak_in quarters j
      (get_or (set s.records (RATCHET + k) month) (RATCHET + j) first_record).days
  peaks_kept month few own n older j below =
      elim (cases_eq j k) [
        | inl same ↦
            let new = get_or-set_same s.records (RATCHET + k) month first_record (omega arith) in
            cc
        | inr other ↦
            let old = get_or-set_other s.records (RATCHET + k) (RATCHET + j) month first_record
            (λ e. other (omega arith)) in
            let there = older j below other in
            let kept = s.peaks j there in
            let was = peak_readings s.quarters j (record_at s j).days in
            let is = peak_readings quarters j (record_at s j).days in
            let stretched = other_readings j there other in
            cc
      ]

  pub months_with_readings : (t : Filed) (month : MonthRecord) (readings : List Reading) → k < s.started
      → map Some readings ≡ posted → at + length posted ≤ quarters_of (record_at s k).days
      → month.days ≡ (record_at s k).days → month.state ≡ (record_at s k).state → t.started ≡ s.started
      → t.records ≡ set s.records (RATCHET + k) month → t.quarters ≡ quarters
      → t.hours ≡ s.hours
      → months_of t ≡ months_with k (with_readings at readings) (months_of s)
  months_with_readings t month readings there are below days state started records memory hours =
      let same = month_read s k in
      let read = ap (λ m. m.readings) same in
      let own = record_own s t k month (omega arith) records in
      let kept : filed_hours_in t ≡ filed_hours_in s = ap (map hour_of) hours in
      let lent : readings_in t ≡ map reading_of quarters = ap (map reading_of) memory in
      let new = stretch_sets MONTH_QUARTERS k (quarters_of (record_at s k).days)
      (readings_in s) at posted below in
      months_altered s t k (with_readings at readings) started there
      (month_parts t s k (record_at s k).days (record_at s k).state
      (sets (readings_at s k (record_at s k).days) at posted) (hours_at s k (record_at s k).days)
      (ap (λ m. m.days) own ∙ days) (ap (λ m. m.state) own ∙ state)
      (rw (lent, written) new) (rw kept refl)
      ∙ (let put = are in cc))
      (λ j started' other. month_kept s t j record {
        days = ap (λ m. m.days) (record_other s t k month (omega arith) records j other);
        state = ap (λ m. m.state) (record_other s t k month (omega arith) records j other);
        readings = rw lent (other_readings j started' other);
        hours = rw kept refl;
      })

-- a month started
pub peak_cleared : (quarters old : List Quarter) (k days : ℕ)
    → MONTH_QUARTERS * k + quarters_of days ≤ length old
    → map reading_of quarters ≡ sets (map reading_of old) (MONTH_QUARTERS * k + 0)
    (replicate (quarters_of days) None) → 0 ≡ peak_in quarters k days
peak_cleared quarters old k days there written =
    sym (peak_readings quarters k days
    ∙ rw (
      written,
      stretch_cleared MONTH_QUARTERS k (quarters_of days) (map reading_of old) None
          (rw length-map there),
      map-replicate kw_of (quarters_of days) None,
    )
    (top_replicate (quarters_of days)))

pub months_started : (s t : Filed) (days : ℕ) (month : MonthRecord) → s.started < MOST_MONTHS → days ≤ 31
    → MONTH_QUARTERS * s.started + quarters_of days ≤ length s.quarters
    → MONTH_HOURS * s.started + hours_of days ≤ length s.hours → t.started ≡ s.started + 1
    → t.records ≡ set s.records (RATCHET + s.started) month → month.days ≡ days → month.state ≡ Open
    → readings_in t ≡ sets (readings_in s) (MONTH_QUARTERS * s.started + 0)
    (replicate (quarters_of days) None)
    → filed_hours_in t
    ≡ sets (filed_hours_in s) (MONTH_HOURS * s.started + 0) (replicate (hours_of days) new_hour)
    → months_of t ≡ months_of s ++ (new_month days ∷ [])
unfolding new_month month_of
months_started s t days month few short quarters hours started records of_days opened written cleared =
    let k = s.started in
    let own = record_own s t k month few records in
    let many = length-replicate {A = Option Reading} (quarters_of days) None in
    let many' = length-replicate (hours_of days) new_hour in
    months_pushed s t (new_month days) started
    (month_parts t t k days Open (replicate (quarters_of days) None) (replicate (hours_of days) new_hour)
    (ap (λ m. m.days) own ∙ of_days) (ap (λ m. m.state) own ∙ opened)
    (rw written (stretch_cleared MONTH_QUARTERS k (quarters_of days) (readings_in s) None
    (rw length-map quarters)))
    (rw cleared
    (stretch_cleared MONTH_HOURS k (hours_of days) (filed_hours_in s) new_hour (rw length-map hours))))
    (λ j there.
    let other : j ≢ k = omega arith in
    let same = record_other s t k month few records j other in
    month_kept s t j record {
      days = ap (λ m. m.days) same;
      state = ap (λ m. m.state) same;
      readings = other_readings s k 0 (replicate (quarters_of days) None)
          (omega (arith, many)) t.quarters written j there other;
      hours = rw cleared (stretch_sets_other MONTH_HOURS j k (hours_of (record_at s j).days)
          (filed_hours_in s) 0
          (replicate (hours_of days) new_hour) other (omega (arith, (record_at s j).length.1))
          (omega (arith, many')));
    })
