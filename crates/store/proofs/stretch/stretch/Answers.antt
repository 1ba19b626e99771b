use Rattle.std.proofs.Common.{◌*◌}
use native.Mathlib.Nat.{add-sub_cancel_left}
use Rattle.store.specs.Records.{stretch}
use Rattle.store.proofs.stretch.stretch.Goals as goal

pub returns : goal.returns
unfolding stretch
returns g c = rw (add-sub_cancel_left (c.args.room * c.args.k) c.args.n)
