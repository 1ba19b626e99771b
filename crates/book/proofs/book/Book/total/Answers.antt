use Rattle.book.specs.Books.{view}
use Rattle.book.specs.Calls.{asks, line_total}
use Rattle.book.specs.Table.{total_rows}
use Rattle.book.proofs.Exits.{answers_refused}
use Rattle.book.proofs.book.Book.total.Goals as goal

pub returns-in_err-named : goal.returns-in_err-named
returns-in_err-named c meaning =
    let m = c.args.month in
    let v = view c.args.self.now in
    answers_refused meaning (asks (line_total m c.args.line)) c.args.self.now c.from_residual.result _ c.from_residual.ensures.1 (c.in_err-named.ensures (total_rows m c.args.line v))
