use Rattle.std.proofs.Common.{◌≡◌, ℕ, ◌+◌, ◌-◌, List, map, take, drop, ap, sym, ◌∙◌, arith}
use mathlib.Core.List.{map-map}
use Rattle.std.proofs.lemmas.List.{drop-map, take-map}
use Rattle.store.specs.Months.{kw_of, top}
use Rattle.store.specs.Records.{reading_of}
use Rattle.store.specs.declared.memory.Quarter.{Quarter}
use Rattle.store.proofs.stretch.part_peak.Goals as goal

-- a part of memory, by its quarters and by their readings
read : (quarters : List Quarter) (first n m : ℕ) → n ≡ m
    → top (map (λ quarter. kw_of (reading_of quarter)) (take n (drop first quarters))) ≡ top
    (map kw_of (take m (drop first (map reading_of quarters))))
read quarters first n m is =
    rw (is, drop-map reading_of first quarters, take-map reading_of m (drop first quarters))
    (ap top (sym (map-map kw_of reading_of (take m (drop first quarters)))))

pub returns-clause-counted : goal.returns-clause-counted
returns-clause-counted c =
    c.highest_of.ensures.counted
    ∙ read c.args.quarters.now c.args.first
    ((c.args.first + c.args.n) - c.args.first) c.args.n (omega arith)
