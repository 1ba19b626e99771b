-- What entries a book may hold of months that are not billed: none that counts.
use Rattle.std.specs.Prelude.{◌≡◌, ℕ, ◌+◌, false, List, pos, slice_index_or}
use Rattle.ledger.specs.Entries.{line_sum}
use Rattle.ledger.specs.declared.entry.Entry.{Entry}
use Rattle.store.specs.Months.{Month, has_reached, no_month}
use Rattle.store.specs.Records.{Keeps}
use Rattle.store.specs.Stores.{filed_as, months_of}
use Rattle.store.specs.declared.memory.Hour.{Hour}
use Rattle.store.specs.declared.memory.Quarter.{Quarter}
use Rattle.store.specs.declared.month.MonthRecords.{MonthRecords}
use Rattle.store.specs.declared.month.State.TheVariants.{Billed}

-- months by their place from 0, entries by the number of their month, from 1
abbrev pub Unbilled : List Month → List Entry → Type 0
Unbilled months entries =
    (k : ℕ) → has_reached Billed (slice_index_or months k no_month).state ≡ false
    → (line : ℕ) → line_sum entries (k + 1) line ≡ pos 0

abbrev pub IsUnbilled : (months : MonthRecords) (quarters : List Quarter) (hours : List Hour)
    → Keeps months quarters hours → List Entry → Type 0
IsUnbilled months quarters hours kept entries = Unbilled (months_of (filed_as months quarters hours kept)) entries
