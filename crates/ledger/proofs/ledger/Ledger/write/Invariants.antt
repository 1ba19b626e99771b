use Rattle.std.proofs.Common.{◌≡◌, ◌+◌, ◌++◌, drop}
use Rattle.ledger.specs.Entries.{entries_from, entries_owed}
use Rattle.ledger.specs.Ledgers.{SameMemory, entries_of, room_of}
use Rattle.ledger.proofs.ledger.Ledger.write.Given as goal

-- what is written and what is still to come make the whole
abbrev pub invariant-loop-i : goal.invariant-loop-i
invariant-loop-i l = record {
  whole : entries_of l.self ++ entries_from l.kind l.month (l.i + 1) (drop l.i l.cents-items) ≡ entries_of l.initial.self ++ entries_owed l.kind l.month l.amounts.cents (entries_of l.initial.self);
  room : room_of l.self ≡ room_of l.initial.self;
  past : drop l.self.written.now l.self.memory.now ≡ drop l.self.written.now l.initial.self.memory.now;
  memory : SameMemory l.initial.self l.self;
}
