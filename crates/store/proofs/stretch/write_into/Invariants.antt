use Rattle.std.proofs.Common.{◌≡◌, map, take, Some}
use lib.Seq.{sets}
use Rattle.store.specs.Records.{reading_of}
use Rattle.store.proofs.stretch.write_into.Given as goal

abbrev pub invariant-loop-i : goal.invariant-loop-i
invariant-loop-i l =
    map reading_of l.month ≡ sets (map reading_of l.initial.month) l.from (map Some (take l.i l.readings))
