-- The first of the highest, from one that stands above all before it to the next.
use Rattle.std.proofs.Common.{◌≡◌, ℕ, ◌+◌, ◌<◌, Bool, true, false, List, length, get_or, inl, inr, arith}
use Rattle.std.specs.Cmp.{IsStrictWeakOrder}
use Rattle.std.specs.List.{IsFirstBest}
use Rattle.std.proofs.lemmas.Bool.{both_ways, cases_Bool, cases_eq, cases_lt}
use Rattle.ranking.specs.Orders.{NoneAbove}

module _ {T : Type 0} (outranks : T → T → Bool) (orders : IsStrictWeakOrder outranks) where
  never_itself : (x : T) → outranks x x ≡ false
  never_itself x = elim (cases_Bool (outranks x x)) [ inl above ↦ orders.one_way x x above | inr not ↦ not ]

  -- what is above one that another is not above is above the other too
  above_both : (x y z : T) → outranks x z ≡ true → outranks y z ≡ false → outranks x y ≡ true
  above_both x y z above not =
      elim (cases_Bool (outranks x y)) [
        | inl higher ↦ higher
        | inr lower ↦ elim (both_ways (outranks x z) (orders.chain x y z lower not) above) [ ]
      ]

  module _ (items : List T) (best : ℕ) (first : IsFirstBest outranks items (best + 1) best) where
    NoneAboveIt : ℕ → Type 0
    NoneAboveIt to = (d : T) → NoneAbove outranks items (best + 1) to (get_or items best d)

    -- none before a place is above it
    below : (to : ℕ) → NoneAboveIt to → (k : ℕ) (d : T) → k < to
        → outranks (get_or items k d) (get_or items best d) ≡ false
    unfolding NoneAboveIt
    below to none k d here =
        elim (cases_lt k (best + 1)) [
          | inl before ↦ first.1 k d before
          | inr after ↦ none d k d after here
        ]

    pub best_of_all : best < length items
        → ((d : T) → NoneAbove outranks items (best + 1) (length items) (get_or items best d))
        → IsFirstBest outranks items (length items) best
    unfolding NoneAboveIt
    best_of_all there none = (there, below (length items) none, first.2)

    -- the next that is above it is above all before
    pub best_so_far : (next : ℕ)
        → ((d : T) → NoneAbove outranks items (best + 1) next (get_or items best d))
        → ((d : T) → outranks (get_or items next d) (get_or items best d) ≡ true)
        → IsFirstBest outranks items (next + 1) next
    unfolding NoneAboveIt
    best_so_far next none above = (
      omega arith,
      λ k d here.
          elim (cases_eq k next) [
            | inl same ↦ rw same (never_itself (get_or items next d))
            | inr other ↦
                orders.chain (get_or items k d) (get_or items best d) (get_or items next d)
                (below next none k d (omega arith))
                (orders.one_way (get_or items next d) (get_or items best d) (above d))
          ],
      λ k d here.
          above_both (get_or items next d) (get_or items k d) (get_or items best d) (above d)
          (below next none k d here),
    )
