use Rattle.std.proofs.Common.{◌≡◌, ◌-◌, ◌≤◌, leb, length, map, get_or, ◌∙◌, arith, rules}
use Rattle.std.proofs.lemmas.List.FromFn.{fill_by_all}
use Rattle.std.proofs.lemmas.List.{get_or-map, length-map}
use Rattle.std.proofs.lemmas.Bool.{and_parts, leb-true}
use Rattle.store.specs.Months.{earlier_peaks, top}
use Rattle.store.specs.Records.{first_record}
use Rattle.store.proofs.Peaks.{le_top}
use Rattle.store.proofs.carried.write.Goals as goal

pub invariant_of-records : goal.invariant_of-records
invariant_of-records c =
    let carried = c.args.carried.now in
    let most : top carried ≤ 1000000 =
    leb-true (top carried) 1000000
    (and_parts (leb (length carried) 24) (leb (top carried) 1000000) c.requires.can_carry).1 in
    let peak : c.unwrap_or.result ≡ get_or carried (23 - c.loop-i.i) 0 = search rules in
    λ d. (
      omega (arith, c.loop-i.auto.records),
      ((get_or c.loop-i.records c.loop-i.i d).length, (omega (arith, peak, le_top carried), tt)),
    )

pub returns : goal.returns
unfolding earlier_peaks
returns c =
    let records = c.loop-i.records in
    let many : length records ≡ 24 = omega (arith, c.loop-i.auto.records) in
    fill_by_all (λ i. get_or c.args.carried.now (24 - 1 - i) 0) (map (λ month. month.peak) records) 24 0
    (length-map records _ ∙ many)
    (λ k h. get_or-map (λ month. month.peak) records k first_record 0 (rw many h)
    ∙ c.loop-i.invariant k (omega arith))
