use Rattle.store.proofs.Kept.{same_filed}
use Rattle.book.proofs.book.Book.on_file.Goals as goal

pub returns : goal.returns
returns c =
    let book = c.args.self.now in
    same_filed book.months book.quarters.now book.hours.now _ _
