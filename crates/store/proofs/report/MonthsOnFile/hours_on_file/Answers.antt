use Rattle.std.proofs.Common.{map, ap, ◌∙◌}
use Rattle.store.specs.Records.{hour_of}
use Rattle.store.specs.Stores.{filed_in}
use Rattle.store.proofs.Views.{hours_read}
use Rattle.store.proofs.report.MonthsOnFile.hours_on_file.Goals as goal

pub returns-clause-read : goal.returns-clause-read
returns-clause-read c = ap (map hour_of) c.on_file.ensures.read
    ∙ hours_read (filed_in c.args.self.now) c.args.k
