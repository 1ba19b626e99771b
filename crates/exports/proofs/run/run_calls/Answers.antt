use Rattle.std.proofs.Common.{◌≡◌, refl, rules}
use Rattle.book.specs.Books.{view}
use Rattle.exports.specs.Runs.{new_book, no_answer_for_each, no_memory, no_pile}
use Rattle.exports.proofs.RunParts.{is_run, written_over}
use Rattle.exports.proofs.run.run_calls.Goals as goal

pub returns-then-answers-calls-clause-fails : goal.returns-then-answers-calls-clause-fails
returns-then-answers-calls-clause-fails c = search (rules, no_answer_for_each)

pub returns-in_err-pile-clause-fails : goal.returns-in_err-pile-clause-fails
returns-in_err-pile-clause-fails c = search (rules, no_pile)

pub returns-in_err-memory-clause-fails : goal.returns-in_err-memory-clause-fails
returns-in_err-memory-clause-fails c = search (rules, no_memory)

pub returns-clause-makes : goal.returns-clause-makes
returns-clause-makes c =
    let pile = c.in_ok-pile.pile in
    let entries = c.args.entries.now in
    let ledger = c.ledger.result.slice.now in
    let new : view c.book-book.result ≡ new_book c.args.months entries = search rules in
    let written : c.write_entries.new.records ≡ written_over entries ledger = search rules in
    record {
      sheet = pile.schedule;
      sheets = pile.riders.items;
      described = c.in_ok-pile.ensures;
      run = is_run _ _ (new_book c.args.months entries) (view c.book-book.result)
          (view c.run_records.new.book)
          entries _ _ _ ledger new c.run_records.ensures.answers c.run_records.ensures.leaves
          c.ledger.ensures written refl;
    }
