use Rattle.std.proofs.Common.{rules}
use Rattle.book.specs.Memories.{entry_room, month_room}
use Rattle.book.proofs.memory.BookMemory.book.Goals as goal

pub returns : goal.returns
unfolding month_room entry_room
returns c = search rules
