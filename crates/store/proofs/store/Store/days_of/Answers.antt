use Rattle.std.proofs.Common.{ap, ◌∙◌}
use Rattle.store.specs.Records.{record_in}
use Rattle.store.specs.Stores.{month_in}
use Rattle.store.proofs.store.Store.days_of.Goals as goal

pub returns : goal.returns
returns c =
    let same = c.on_file.ensures in
    let found = c.days_of.ensures in
    let k = c.args.k in
    record {
      read = found.read ∙ ap (λ file. (month_in file k).days) same;
      within = found.within;
      there = λ some. rw (ap (λ file. file.started) same) at (found.there some);
      recorded = λ some. found.recorded some ∙ ap (λ file. (record_in file.records k).days) same;
    }
