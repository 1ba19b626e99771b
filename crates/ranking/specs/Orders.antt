-- Orders made of orders.
use Rattle.std.specs.Prelude.{◌≡◌, ℕ, ◌<◌, ◌≤◌, Bool, false, not, ◌&&◌, ◌||◌, List, slice_index_or}

-- by the first order, and where it puts neither above the other, by the second
abbrev pub then_outranks : {T : Type 0} → (T → T → Bool) → (T → T → Bool) → T → T → Bool
then_outranks first second x y = first x y || (not (first y x) && second x y)

-- no item from one place up to another stands above it
abbrev pub NoneAbove : {T : Type 0} → (T → T → Bool) → List T → ℕ → ℕ → T → Type 0
NoneAbove {T} outranks items from to other =
    (k : ℕ) (d : T) → from ≤ k → k < to → outranks (slice_index_or items k d) other ≡ false
