use Rattle.std.proofs.Common.{◌≡◌, ℕ, ◌+◌, ◌*◌, ◌<◌, ◌≤◌, List, map, length, take, drop, Some, Option, refl, sym, ap, ◌∙◌, arith}
use Rattle.std.proofs.lemmas.List.{get_or_default, length-map}
use Rattle.store.specs.Months.{kw_of, quarters_of, top}
use Rattle.store.specs.Records.{first_record, peak_in, reading_of}
use Rattle.store.specs.Stores.{Filed, capacity_of, filed}
use Rattle.store.specs.declared.carried.TheConstants.{RATCHET}
use Rattle.store.specs.declared.memory.TheConstants.{MONTH_QUARTERS}
use Rattle.store.specs.declared.memory.Quarter.{Quarter}
use Rattle.store.specs.declared.post.Reading.{Reading}
use lib.Seq.{sets}
use Rattle.store.proofs.Parts.{part_over, part_under, part_written}
use Rattle.store.proofs.Alterations.{before_kept, months_with_readings, peaks_kept, readings_in, record_at}
use Rattle.store.proofs.store.Store.write_readings.Goals as goal

-- readings written over a part of a started month
module _ (s : Filed) (k from : ℕ) (there : k < s.started) (readings : List Reading)
    (fits : from + length readings ≤ quarters_of (record_at s k).days) (quarters : List Quarter)
    (written : map reading_of quarters ≡ sets (readings_in s) (MONTH_QUARTERS * k + from)
    (map Some readings)) (kept : ℕ) (read : kept ≡ (record_at s k).peak) where
  posted : List (Option Reading)
  posted = map Some readings

  many : length posted ≡ length readings
  unfolding posted
  many = length-map readings Some

  within : from + length posted ≤ quarters_of (record_at s k).days
  within = omega (arith, many)

  room : MONTH_QUARTERS * k + quarters_of (record_at s k).days ≤ length s.quarters
  room = omega (arith, s.quarters_fit, (record_at s k).length.1)

  was : peak_in s.quarters k (record_at s k).days ≡ kept
  was = sym (read ∙ s.peaks k there)

  -- the highest of the part's quarters, as they were and as they are
  highest_was : top (map kw_of (take (length readings) (drop (MONTH_QUARTERS * k + from) (readings_in s))))
      ≡ top (map kw_of (take (length posted) (drop (MONTH_QUARTERS * k + from) (readings_in s))))
  highest_was = ap (λ n. top (map kw_of (take n (drop (MONTH_QUARTERS * k + from) (readings_in s)))))
      (sym many)

  highest_is : top (map kw_of
      (take (length readings) (drop (MONTH_QUARTERS * k + from) (map reading_of quarters)))) ≡ top
      (map kw_of posted)
  unfolding posted
  highest_is =
      ap (λ n. top (map kw_of (take n (drop (MONTH_QUARTERS * k + from) (map reading_of quarters)))))
      (sym many)
      ∙ ap (λ rs. top (map kw_of (take (length posted) (drop (MONTH_QUARTERS * k + from) rs)))) written
      ∙ ap (λ rs. top (map kw_of rs))
      (part_written (readings_in s) posted (MONTH_QUARTERS * k + from)
      (omega (arith, within, room, length-map s.quarters reading_of)))

  over : (highest : ℕ) → highest ≡ top
      (map kw_of (take (length readings) (drop (MONTH_QUARTERS * k + from) (map reading_of quarters))))
      → kept ≤ highest → peak_in quarters k (record_at s k).days ≡ highest
  unfolding posted
  over highest top_is above =
      let is' = top_is ∙ highest_is in
      part_over s.quarters quarters k (record_at s k).days from posted within room written
      (omega (arith, above, was, is')) ∙ sym is'

  under : (before highest : ℕ)
      → before ≡ top (map kw_of
      (take (length readings) (drop (MONTH_QUARTERS * k + from) (readings_in s))))
      → highest ≡ top (map kw_of
      (take (length readings) (drop (MONTH_QUARTERS * k + from) (map reading_of quarters))))
      → before < kept → highest < kept → peak_in quarters k (record_at s k).days ≡ kept
  unfolding posted
  under before highest top_was top_is low lower =
      let was' = top_was ∙ highest_was in
      let is' = top_is ∙ highest_is in
      part_under s.quarters quarters k (record_at s k).days from posted within room written
      (omega (arith, low, was, was')) (omega (arith, lower, was, is')) ∙ was

pub peak_after-peak-requires-clause-over : goal.peak_after-peak-requires-clause-over
peak_after-peak-requires-clause-over c =
    let store = filed c.args.self.now in
    let k = c.args.k in
    let quarters = c.write.new.quarters in
    let same = get_or_default store.records (RATCHET + k) c.index-months-k.result first_record
    (omega arith) in
    λ above. ap (λ m. peak_in quarters k m.days) same
    ∙ over store k c.args.from c.requires.started c.args.readings.now c.requires.there quarters
    c.write.ensures.written _
    (ap (λ m. m.peak) same) c.part_peak-posted.result c.part_peak-posted.ensures.counted above

pub peak_after-peak-requires-clause-under : goal.peak_after-peak-requires-clause-under
peak_after-peak-requires-clause-under c =
    let store = filed c.args.self.now in
    let k = c.args.k in
    let quarters = c.write.new.quarters in
    let same = get_or_default store.records (RATCHET + k) c.index-months-k.result first_record
    (omega arith) in
    λ low lower. ap (λ m. peak_in quarters k m.days) same
    ∙ under store k c.args.from c.requires.started c.args.readings.now c.requires.there quarters
    c.write.ensures.written _
    (ap (λ m. m.peak) same) c.part_peak-before.result c.part_peak-posted.result
    c.part_peak-before.ensures.counted c.part_peak-posted.ensures.counted low lower

pub invariant_of-self : goal.invariant_of-self
invariant_of-self c =
    let store = filed c.args.self.now in
    let k = c.args.k in
    let quarters = c.write.new.quarters in
    let readings = c.args.readings.now in
    let many = length-map readings Some in
    let was = get_or_default store.records (RATCHET + k) c.index-months-k.result first_record (omega arith) in
    let is = get_or_default store.records (RATCHET + k) c.index-months-k-2.result first_record
    (omega arith) in
    let own = c.peak_after-peak.ensures.counted ∙ ap (λ m. peak_in quarters k m.days) was
    ∙ sym (ap (λ m. peak_in quarters k m.days) is) in
    record {
      kept = (
        omega (arith, c.write.ensures.size, store.quarters_fit),
        store.hours_fit,
        peaks_kept store k c.args.from (map Some readings)
            (omega (arith, many, c.requires.there, (record_at store k).length.1))
            quarters c.write.ensures.written _
            (omega (arith, c.requires.started, store.few)) own store.started (λ j h other. h),
      );
    }

pub returns : goal.returns
unfolding capacity_of
returns c =
    let store = filed c.args.self.now in
    let k = c.args.k in
    let readings = c.args.readings.now in
    let many = length-map readings Some in
    let same = get_or_default store.records (RATCHET + k) c.index-months-k-2.result first_record
    (omega arith) in
    record {
      month = record {
        months = months_with_readings store k c.args.from (map Some readings)
            (omega (
              arith,
              many,
              c.requires.there,
              (record_at store k).length.1,
            )) c.write.new.quarters c.write.ensures.written _ _ readings c.requires.started refl
            (omega (arith, many, c.requires.there)) (ap (λ m. m.days) same)
            (ap (λ m. m.state) same) refl refl refl refl;
        before = before_kept store _ k _ (omega (arith, c.requires.started, store.few)) refl;
        capacity = rw c.write.ensures.size refl;
      };
      memory = (refl, refl, refl);
    }
