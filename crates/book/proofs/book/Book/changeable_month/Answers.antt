use Rattle.std.proofs.Common.{◌∷◌}
use Rattle.std.proofs.lemmas.Result.{err_from_is_err_and}
use Rattle.book.specs.Books.{view}
use Rattle.book.specs.Table.{month_final}
use Rattle.book.proofs.book.Book.changeable_month.Goals as goal

pub returns-in_err-named : goal.returns-in_err-named
returns-in_err-named c =
    let p = err_from_is_err_and c.from_residual.result c.from_residual.ensures.1 in
    rw (p.1, p.2) (λ rows. c.in_err-named.ensures (month_final c.args.month (view c.args.self.now) ∷ rows))
