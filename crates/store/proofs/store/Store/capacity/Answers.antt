use Rattle.std.proofs.Common.{rules, arith}
use Rattle.store.specs.Stores.{capacity, capacity_of}
use Rattle.store.proofs.store.Store.capacity.Goals as goal

pub returns : goal.returns
unfolding capacity_of capacity
returns c = record {
  held = search rules;
  few = omega arith;
  quarters_fit = omega arith;
  hours_fit = omega arith;
}
