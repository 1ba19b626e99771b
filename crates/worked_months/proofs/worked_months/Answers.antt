use Rattle.std.proofs.Common.{refl}
use Rattle.worked_months.proofs.Table.{all_hold}
use Rattle.worked_months.proofs.worked_months.Goals as goal

pub returns : goal.returns
returns c = record { count = refl; hold = all_hold }
