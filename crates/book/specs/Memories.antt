-- What memory for a book has room for.
use Rattle.std.specs.Prelude.{ℕ, length}
use Rattle.store.specs.Stores.{capacity}
use Rattle.book.specs.declared.memory.BookMemory.{BookMemory}

-- how many months
unfoldable pub month_room : BookMemory → ℕ
month_room memory = capacity (length memory.quarters.items) (length memory.hours.items)

-- how many entries
unfoldable pub entry_room : BookMemory → ℕ
entry_room memory = length memory.entries.items
