use Rattle.std.proofs.Common.{◌≡◌, ℕ, ◌+◌, ◌*◌, ◌<◌, ◌≤◌, [], ◌∷◌, map, length, set, get_or, take, drop, drop-cons, Some, refl, sym, ap, ◌∙◌, arith}
use Rattle.std.proofs.lemmas.List.{get_or-map, get_or_default, length-map, length-set, map-set}
use lib.Seq.{sets}
use Rattle.store.specs.Months.{kw_of, quarters_of, top}
use Rattle.store.specs.Records.{first_record, peak_in, reading_of}
use Rattle.store.specs.Stores.{Filed, capacity_of, filed}
use Rattle.store.specs.declared.carried.TheConstants.{RATCHET}
use Rattle.store.specs.declared.memory.TheConstants.{MONTH_QUARTERS}
use Rattle.store.specs.declared.memory.Quarter.{Quarter}
use Rattle.store.specs.declared.post.Reading.{Reading}
use Rattle.store.proofs.Parts.{part_over, part_under}
use Rattle.store.proofs.Alterations.{before_kept, months_with_readings, peaks_kept, readings_in, record_at}
use Rattle.store.proofs.store.Store.write_reading.Goals as goal

-- a reading written over a quarter of a started month
module _ (s : Filed) (k quarter : ℕ) (there : k < s.started) (reading : Reading)
    (below : quarter < quarters_of (record_at s k).days) (held : Quarter)
    (is : reading_of held ≡ Some reading) where
  abbrev place : ℕ
  place = MONTH_QUARTERS * k + quarter

  room : MONTH_QUARTERS * k + quarters_of (record_at s k).days ≤ length s.quarters
  room = omega (arith, s.quarters_fit, (record_at s k).length.1)

  written : map reading_of (set s.quarters place held) ≡ sets (readings_in s) place (Some reading ∷ [])
  written = map-set reading_of s.quarters place held ∙ ap (set (readings_in s) place) is

  -- the highest of the one quarter, as it was and as it is
  highest_was : (d : Quarter) → top (map kw_of (take 1 (drop place (readings_in s))))
      ≡ kw_of (reading_of (get_or s.quarters place d))
  unfolding top
  highest_was d =
      let inside : place < length s.quarters = omega (arith, room, below) in
      rw (
        drop-cons (readings_in s) place (reading_of d) (rw length-map inside),
        get_or-map reading_of s.quarters place d (reading_of d) inside,
      ) (omega arith)

  highest_is : top (map kw_of (Some reading ∷ [])) ≡ reading.kw
  unfolding top
  highest_is = omega arith

  module _ (kept : ℕ) (read : kept ≡ (record_at s k).peak) where
    was : peak_in s.quarters k (record_at s k).days ≡ kept
    was = sym (read ∙ s.peaks k there)

    over : kept ≤ reading.kw → peak_in (set s.quarters place held) k (record_at s k).days ≡ reading.kw
    over above =
        part_over s.quarters (set s.quarters place held) k (record_at s k).days quarter (Some reading ∷ [])
        (omega (arith, below)) room written (omega (arith, above, was, highest_is)) ∙ highest_is

    under : (d : Quarter) → kw_of (reading_of (get_or s.quarters place d)) < kept → reading.kw < kept
        → peak_in (set s.quarters place held) k (record_at s k).days ≡ kept
    under d low lower =
        part_under s.quarters (set s.quarters place held) k (record_at s k).days quarter (Some reading ∷ [])
        (omega (arith, below)) room written (omega (arith, low, was, highest_was d))
        (omega (arith, lower, was, highest_is)) ∙ was

pub peak_after-peak-requires-clause-over : goal.peak_after-peak-requires-clause-over
peak_after-peak-requires-clause-over c =
    let store = filed c.args.self.now in
    let k = c.args.k in
    let quarters = set store.quarters (MONTH_QUARTERS * k + c.args.quarter) c.holding.result in
    let same = get_or_default store.records (RATCHET + k) c.index-months-k.result first_record
    (omega arith) in
    λ above. ap (λ m. peak_in quarters k m.days) same
    ∙ over store k c.args.quarter c.requires.started c.args.reading (omega (arith, c.requires.there))
    c.holding.result c.holding.ensures _ (ap (λ m. m.peak) same) above

pub peak_after-peak-requires-clause-under : goal.peak_after-peak-requires-clause-under
peak_after-peak-requires-clause-under c =
    let store = filed c.args.self.now in
    let k = c.args.k in
    let quarters = set store.quarters (MONTH_QUARTERS * k + c.args.quarter) c.holding.result in
    let same = get_or_default store.records (RATCHET + k) c.index-months-k.result first_record
    (omega arith) in
    λ low lower. ap (λ m. peak_in quarters k m.days) same
    ∙ under store k c.args.quarter c.requires.started c.args.reading (omega (arith, c.requires.there))
    c.holding.result c.holding.ensures _ (ap (λ m. m.peak) same) c.index-quarters-place.result
    (omega (arith, low, c.kw-before.ensures.counted)) lower

pub invariant_of-self : goal.invariant_of-self
invariant_of-self c =
    let store = filed c.args.self.now in
    let k = c.args.k in
    let quarters = set store.quarters (MONTH_QUARTERS * k + c.args.quarter) c.holding.result in
    let was = get_or_default store.records (RATCHET + k) c.index-months-k.result first_record (omega arith) in
    let is = get_or_default store.records (RATCHET + k) c.index-months-k-2.result first_record
    (omega arith) in
    let own = c.peak_after-peak.ensures.counted ∙ ap (λ m. peak_in quarters k m.days) was
    ∙ sym (ap (λ m. peak_in quarters k m.days) is) in
    record {
      kept = (
        rw length-set store.quarters_fit,
        store.hours_fit,
        peaks_kept store k c.args.quarter (Some c.args.reading ∷ [])
            (omega (arith, c.requires.there, (record_at store k).length.1)) _
            (written store k c.args.quarter c.requires.started c.args.reading
            (omega (arith, c.requires.there)) c.holding.result c.holding.ensures) _
            (omega (arith, c.requires.started, store.few)) own store.started (λ j h other. h),
      );
    }

pub returns-clause-month : goal.returns-clause-month
unfolding capacity_of
returns-clause-month c =
    let store = filed c.args.self.now in
    let k = c.args.k in
    let same = get_or_default store.records (RATCHET + k) c.index-months-k-2.result first_record
    (omega arith) in
    record {
      months = months_with_readings store k c.args.quarter (Some c.args.reading ∷ [])
          (omega (arith, c.requires.there, (record_at store k).length.1)) _
          (written store k c.args.quarter c.requires.started c.args.reading
          (omega (arith, c.requires.there)) c.holding.result c.holding.ensures) _ _
          (c.args.reading ∷ []) c.requires.started refl (omega (arith, c.requires.there))
          (ap (λ m. m.days) same) (ap (λ m. m.state) same) refl refl refl refl;
      before = before_kept store _ k _ (omega (arith, c.requires.started, store.few)) refl;
      capacity = simp length-set;
    }
