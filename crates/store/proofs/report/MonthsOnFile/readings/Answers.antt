use Rattle.std.proofs.Common.{map, ap, ◌∙◌}
use Rattle.store.specs.Records.{reading_of}
use Rattle.store.specs.Stores.{filed_in}
use Rattle.store.proofs.Views.{readings_read}
use Rattle.store.proofs.report.MonthsOnFile.readings.Goals as goal

pub returns-clause-read : goal.returns-clause-read
returns-clause-read c = ap (map reading_of) c.on_file.ensures.read
    ∙ readings_read (filed_in c.args.self.now) c.args.k
