use Rattle.std.proofs.Common.{◌≡◌, ℕ, ◌<◌, ◌≤◌, leb, List, [], map, length, get_or, take, Some, None, Option, unwrap_or, sym, ap, ◌∙◌, arith}
use Rattle.std.proofs.lemmas.List.FromFn.{fill_by_all}
use Rattle.std.proofs.lemmas.List.{get_or-map, get_or-take, length-take-le}
use Rattle.std.proofs.lemmas.Bool.{cond_both, leb-true}
use Rattle.tariff.specs.Limits.{HourWithin, no_row}
use Rattle.tariff.specs.declared.hours.HourRow.{HourRow}
use Rattle.store.specs.Months.{hour_row}
use Rattle.store.specs.Records.{hour_of, reading_of}
use Rattle.store.specs.declared.memory.Hour.{Hour}
use Rattle.store.specs.declared.memory.Quarter.{Quarter}
use Rattle.store.proofs.report.fill_rows.Goals as goal

price_limited : (hour : Hour) → unwrap_or (hour_of hour).price 0 ≤ 99999
price_limited hour =
    let Limited : Option ℕ → Type 0 = λ price. unwrap_or price 0 ≤ 99999 in
    cond_both (leb hour.price 99999) (Some hour.price) None Limited
    (λ posted. leb-true hour.price 99999 posted) (λ _. omega arith)

-- the row that the loop writes
module _ (quarters : List Quarter) (hours : List Hour) (h : ℕ) (hour : Hour) (row : HourRow)
    (here : h < length hours) (is : hour ≡ get_or hours h hour)
    (energy : row.energy ≡ (hour_row (map reading_of quarters) [] h).energy)
    (price : row.price ≡ unwrap_or (hour_of hour).price 0) (scheduled : row.scheduled ≡ hour.scheduled) where
  row_is : row ≡ hour_row (map reading_of quarters) (map hour_of hours) h
  row_is =
      let there : get_or (map hour_of hours) h record { price = None; scheduled = 0 } ≡ hour_of hour =
      get_or-map hour_of hours h hour _ here ∙ ap hour_of (sym is) in
      rw (there, sym energy, sym price, sym scheduled)

  row_within : row.energy ≤ 4000000 → HourWithin row
  row_within limited = (
    limited,
    rw price (price_limited hour),
    rw scheduled hour.within,
  )

pub returns : goal.returns
returns c =
    let hours = c.args.hours.now in
    let rows = c.loop-h.rows in
    let room : length hours ≤ length rows = omega (arith, c.requires.room, c.loop-h.auto.rows) in
    record {
      filled =
          fill_by_all (hour_row (map reading_of c.args.quarters.now) (map hour_of hours))
          (take (length hours) rows) (length hours) no_row (length-take-le (length hours) rows room)
          (λ k here. rw get_or-take (c.loop-h.invariant.0 k (omega arith)));
      within = c.loop-h.invariant.1;
    }
