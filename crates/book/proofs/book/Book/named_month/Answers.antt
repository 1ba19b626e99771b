use Rattle.std.proofs.Common.{refl, arith}
use Rattle.store.proofs.Stretches.{length_months}
use Rattle.store.specs.Stores.{filed_in}
use Rattle.book.proofs.book.Book.named_month.Goals as goal

pub overflow_cast-result : goal.overflow_cast-result
overflow_cast-result c = omega (arith, length_months (filed_in c.on_file.result), c.in-Some.ensures.there.0 refl)
