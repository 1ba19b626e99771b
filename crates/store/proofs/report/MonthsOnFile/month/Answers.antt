use Rattle.store.specs.Stores.{filed_in}
use Rattle.store.proofs.Views.{month_found}
use Rattle.store.proofs.report.MonthsOnFile.month.Goals as goal

pub returns : goal.returns
returns c =
    let lookup = c.get.ensures.lookup in
    rw c.copied.ensures
    (month_found (filed_in c.args.self.now) c.args.k c.records.result.now c.get.result c.records.ensures
    lookup.0 lookup.1)
