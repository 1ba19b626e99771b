use Rattle.std.proofs.Common.{◌≡◌, IfSome, length, ap, subst}
use Rattle.store.specs.Stores.{months_of}
use Rattle.book.specs.Books.{view}
use Rattle.book.specs.Views.{facts_of}
use Rattle.book.proofs.book.Book.facts.Goals as goal

pub unwrap-requires : goal.unwrap-requires
unwrap-requires c =
    c.facts.ensures.there.1 (rw (← ap (λ file. length (months_of file)) c.on_file.ensures) at c.requires.there)

pub returns : goal.returns
unfolding facts_of
returns c =
    let plain = facts_of (view c.args.self.now) c.args.named.now.month in
    subst (λ found. IfSome found (λ facts. facts.plain ≡ plain)) c.unwrap.ensures
    (rw (c.requires.point, ← c.requires.index, ← c.on_file.ensures) c.facts.ensures.facts)
