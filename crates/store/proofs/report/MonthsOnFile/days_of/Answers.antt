use Rattle.std.proofs.Common.{◌∙◌, rules}
use Rattle.store.specs.Stores.{filed_in}
use Rattle.store.proofs.Views.{days_found, days_recorded}
use Rattle.store.proofs.report.MonthsOnFile.days_of.Goals as goal

pub returns : goal.returns
returns c =
    let store = filed_in c.args.self.now in
    let found = days_found store c.args.k c.map_or.result c.record.result
    c.record.ensures.there c.record.ensures.days (search rules) in
    record {
      read = found.0;
      within = found.1;
      there = found.2;
      recorded = λ some. found.0 ∙ days_recorded store c.args.k (found.2 some);
    }
