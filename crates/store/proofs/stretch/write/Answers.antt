use Rattle.std.proofs.Common.{◌≡◌, ◌+◌, ◌-◌, ◌*◌, map, length, take, drop, Some, sym, ap, ◌∙◌, arith, length-drop, length-take}
use borrow.Rule.Slice.PartMut.{put_mid}
use lib.Seq.{sets}
use Rattle.std.proofs.lemmas.List.{drop-map, length-map, take-map}
use Rattle.store.specs.Records.{reading_of}
use Rattle.store.proofs.Stretches.{map_put_mid, same_length, sets_within}
use Rattle.store.proofs.stretch.write.Goals as goal

pub returns : goal.returns
returns c =
    let old = c.args.quarters.now in
    let readings = map Some c.args.readings.now in
    let many = length-map c.args.readings.now Some in
    let first = 2976 * c.args.k in
    let n = (first + 96 * c.args.days) - first in
    let part = c.write_into.new.month in
    let stretch = take n (drop first old) in
    let wrote : map reading_of part ≡ sets (take n (drop first (map reading_of old))) c.args.from readings =
    c.write_into.ensures ∙ ap (λ rs. sets rs c.args.from readings)
    (sym (ap (take n) (drop-map reading_of first old) ∙ take-map reading_of n (drop first old))) in
    let long : length part ≡ n = same_length reading_of stretch part c.args.from readings c.write_into.ensures
    ∙ simp (length-take, length-drop) (omega arith) in
    let written = map_put_mid reading_of old part first n _ wrote long (omega arith)
    ∙ sets_within (map reading_of old) first n c.args.from readings (omega (arith, many))
    (omega (arith, length-map old reading_of)) in
    record {
      written = written;
      size = same_length reading_of old (put_mid first n old part) (first + c.args.from) readings written;
    }
