use Rattle.std.proofs.Common.{length, sym, refl, ap, ◌∙◌, arith}
use Rattle.store.specs.Months.{first_short_month}
use Rattle.store.specs.Stores.{months_of}
use Rattle.book.specs.Books.{view}
use Rattle.book.proofs.Exits.{none_short, one_short}
use Rattle.book.proofs.book.Book.check_earlier.Goals as goal

pub returns-in-Some : goal.returns-in-Some
returns-in-Some c =
    let named = c.args.named.now in
    let file = ap (λ file. first_short_month c.args.state (months_of file) named.index) c.on_file.ensures in
    one_short named.month (view c.args.self.now) named c.requires c.args.state c.in-Some.short (sym c.in-Some.ensures.0 ∙ file) (omega (arith, c.in-Some.ensures.1))

pub returns-in-None : goal.returns-in-None
returns-in-None c =
    let v = view c.args.self.now in
    let named = c.args.named.now in
    let file = ap (λ file. first_short_month c.args.state (months_of file) named.index) c.on_file.ensures in
    let many = ap (λ file. length (months_of file)) c.on_file.ensures in
    none_short named.month v named c.requires c.args.state (first_short_month c.args.state v.months named.index) refl (omega (arith, c.in-None.ensures, file, many, c.requires.there))
