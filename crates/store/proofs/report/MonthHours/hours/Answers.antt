use Rattle.std.proofs.Common.{take, ap}
use native.Mathlib.Nat.{sub-zero}
use Rattle.store.specs.Rows.{rows_in}
use Rattle.store.proofs.report.MonthHours.hours.Goals as goal

pub returns : goal.returns
unfolding rows_in
returns c =
    let month = c.args.self.now in
    ap (λ n. take n month.rows) (sub-zero month.count)
