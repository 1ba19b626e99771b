use Rattle.std.proofs.Common.{map, ap, ◌∙◌}
use Rattle.store.specs.Months.{kw_of, top}
use Rattle.store.specs.Records.{peak_in, reading_of}
use Rattle.store.proofs.stretch.month_peak.Goals as goal

pub returns-clause-counted : goal.returns-clause-counted
unfolding peak_in
returns-clause-counted c =
    c.highest_of.ensures.counted
    ∙ ap (λ quarters. top (map (λ quarter. kw_of (reading_of quarter)) quarters)) c.stretch-month.ensures
