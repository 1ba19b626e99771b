use Rattle.std.proofs.Common.{◌+◌, ◌<◌, ◌≡◌, List, map, length, set, get_or, take, Some, Option, sym, ap, ◌∙◌, arith, length-take}
use lib.Seq.{sets}
use Rattle.std.proofs.lemmas.List.{length-map, map_more, map-set}
use Rattle.std.proofs.lemmas.List.Sums.{prefix_len_passes}
use Rattle.store.specs.Posts.{reading_within}
use Rattle.store.specs.Records.{reading_of}
use Rattle.store.specs.declared.post.Reading.{Reading}
use Rattle.store.proofs.Stretches.{sets_push}
use Rattle.store.proofs.stretch.write_into.Goals as goal

pub holding-requires : goal.holding-requires
holding-requires c =
    let none : Reading = record { kw = 0; kva = 0 } in
    prefix_len_passes reading_within c.args.readings.now c.loop-i.i none
    (omega (arith, c.requires.within, c.loop-i-test.true))

pub loop-i-preserved : goal.loop-i-preserved
loop-i-preserved c =
    let none : Reading = record { kw = 0; kva = 0 } in
    let readings = c.args.readings.now in
    let i = c.loop-i.i in
    let from = c.args.from in
    let few : i < length readings = omega (arith, c.loop-i-test.true) in
    let old = map reading_of c.args.month.now in
    let done : List (Option Reading) = map Some (take i readings) in
    let many : length done ≡ i = length-map (take i readings) Some ∙ simp length-take (omega arith) in
    map-set reading_of c.loop-i.month (from + i) c.holding.result
    ∙ ap (λ xs. set xs (from + i) (reading_of c.holding.result)) c.loop-i.invariant
    ∙ ap (λ reading. set (sets old from done) (from + i) reading) c.holding.ensures
    ∙ sym (ap (sets old from) (map_more Some readings i none few)
    ∙ sets_push old from done (Some (get_or readings i none))
    ∙ ap (λ n. set (sets old from done) (from + n) (Some (get_or readings i none))) many)
