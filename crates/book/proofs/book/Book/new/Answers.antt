use Rattle.std.proofs.Common.{refl, sym, arith, length-take}
use Rattle.ledger.specs.Entries.{line_sum}
use Rattle.ledger.proofs.Fronts.{none_within}
use Rattle.store.specs.Stores.{capacity_of}
use Rattle.store.proofs.Places.{slice_get-take, stands}
use Rattle.book.specs.Books.{file_of}
use Rattle.book.proofs.book.Book.new.Goals as goal

pub invariant_of-result : goal.invariant_of-result
unfolding line_sum
invariant_of-result c = record {
  filed = c.none.ensures.none.kept c.args.quarters.now c.args.hours.now;
  ledgered = (omega arith, none_within);
  unbilled = λ k opened line. refl;
}

pub returns : goal.returns
unfolding capacity_of
returns c =
    let quarters = c.args.quarters.now in
    let hours = c.args.hours.now in
    record {
      blank = rw (c.none.ensures.none.months quarters hours _, c.none.ensures.none.before quarters hours _) refl;
      lent = record { quarters = refl; hours = refl; entries = refl };
      kept = record { quarters = refl; hours = refl; entries = refl };
      stands = λ book. record {
        months = stands (file_of book);
        entries = λ i here.
            let short = length-take book.written book.entries.now in
            sym (slice_get-take book.written book.entries.now i (omega (arith, here, short)));
      };
    }
