-- What a record says of an entry of the ledger.
use Rattle.std.specs.Prelude.{ℕ}
use Rattle.ledger.specs.declared.entry.Entry.{Entry}
use Rattle.ledger.specs.declared.entry.EntryKind.{EntryKind}
use Rattle.ledger.specs.declared.entry.EntryKind.TheVariants.{Bill, TrueUp}
use Rattle.exports.specs.declared.entry.EntryRecord.{EntryRecord}

abbrev pub letter_number : EntryKind → ℕ
letter_number Bill = 0
letter_number TrueUp = 1

abbrev pub entry_record : Entry → EntryRecord
entry_record entry = record {
  month = entry.month;
  letter = letter_number entry.kind;
  line = entry.line;
  cents = entry.cents;
}
