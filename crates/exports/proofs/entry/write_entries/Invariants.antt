use Rattle.std.proofs.Common.{◌≡◌, map, take, drop}
use Rattle.exports.specs.Entries.{entry_record}
use Rattle.exports.proofs.entry.write_entries.Given as goal

abbrev pub invariant-loop-i : goal.invariant-loop-i
invariant-loop-i l =
    (take l.i l.records ≡ map entry_record (take l.i l.entries))
    × (drop l.i l.records ≡ drop l.i l.initial.records)
