use Rattle.std.proofs.Common.{◌≡◌, ℕ, ◌-◌, ◌<◌, get_or}
use Rattle.store.specs.Records.{first_record}
use Rattle.store.proofs.carried.write.Given as goal

abbrev pub invariant-loop-i : goal.invariant-loop-i
invariant-loop-i l =
    (j : ℕ) → j < l.i → (get_or l.records j first_record).peak ≡ get_or l.carried (24 - 1 - j) 0
