-- The highest of a list, and the peaks of a month.
use Rattle.std.proofs.Common.{◌≡◌, ℕ, zero, suc, ◌<◌, ◌≤◌, leb, ltb, List, [], ◌∷◌, map, length, get_or, replicate, Some, None, Option, refl, sym, ap, ◌∙◌, le_trans, arith}
use native.Mathlib.Nat.{le-max_left, le-max_right, max-le}
use mathlib.Core.List.{map-map}
use Rattle.std.specs.List.{IsFirstBest, list_all}
use Rattle.std.proofs.lemmas.List.{length-map, get_or-map}
use Rattle.std.proofs.lemmas.Bool.{cond_both, le-leb, leb-true, ltb-false}
use Rattle.std.proofs.lemmas.Bool.Decides.{nat_tests}
use Rattle.store.specs.Months.{Month, kva_of, kw_of, peak, peak_kva, top}
use Rattle.store.specs.Records.{reading_of}
use Rattle.store.specs.declared.memory.Quarter.{Quarter}
use Rattle.store.specs.declared.post.Reading.{Reading}

pub le_top : (xs : List ℕ) (k : ℕ) → get_or xs k 0 ≤ top xs
unfolding top
le_top [] k = omega arith
le_top (x ∷ xs) zero = le-max_left x (top xs)
le_top (x ∷ xs) (suc k) = le_trans (le_top xs k) (le-max_right x (top xs))

pub top_least : (xs : List ℕ) (most : ℕ) → ((k : ℕ) → k < length xs → get_or xs k 0 ≤ most) → top xs ≤ most
unfolding top
top_least [] most below = omega arith
top_least (x ∷ xs) most below =
    max-le (below 0 (omega arith)) (top_least xs most (λ k h. below (suc k) (omega arith)))

pub top_is : (xs : List ℕ) (k most : ℕ) → get_or xs k 0 ≡ most
    → ((j : ℕ) → j < length xs → get_or xs j 0 ≤ most) → top xs ≡ most
top_is xs k most there below = omega (arith, le_top xs k, top_least xs most below)

pub top_replicate : (n : ℕ) → top (replicate n 0) ≡ 0
unfolding top
top_replicate zero = refl
top_replicate (suc n) = omega (arith, top_replicate n)

-- the first of the highest, as a search by a number finds it
pub highest_is_top : {X : Type 0} (key : X → ℕ) (xs : List X) (best : ℕ) (d : X)
    → IsFirstBest (λ x y. ltb (key y) (key x)) xs (length xs) best → key (get_or xs best d) ≡ top (map key xs)
highest_is_top key xs best d found =
    let at : (k : ℕ) → k < length xs → get_or (map key xs) k 0 ≡ key (get_or xs k d) =
    λ k h. get_or-map key xs k d 0 h in
    let most : top (map key xs) ≡ key (get_or xs best d) =
    top_is (map key xs) best (key (get_or xs best d)) (at best found.0)
    (λ j h. let in' : j < length xs = omega (arith, length-map xs key) in
    omega (arith, at j in', ltb-false (key (get_or xs best d)) (key (get_or xs j d)) (found.1 j d in'))) in
    omega arith

pub all_top : (xs : List ℕ) (most : ℕ) → list_all (λ x. leb x most) xs ≡ leb (top xs) most
unfolding top
all_top [] most = sym (le-leb 0 most (omega arith))
all_top (x ∷ xs) most = grind (arith, nat_tests, all_top xs most)

-- a list that was made from another
pub top_below : {X : Type 0} (low high : X → ℕ) → ((x : X) → low x ≤ high x) → (xs : List X)
    → top (map low xs) ≤ top (map high xs)
unfolding top
top_below low high below [] = omega arith
top_below low high below (x ∷ xs) = omega (arith, below x, top_below low high below xs)

-- a quarter's kW is never above its kVA
pub quarter_ordered : (quarter : Quarter) → kw_of (reading_of quarter) ≤ kva_of (reading_of quarter)
quarter_ordered quarter =
    let Ordered : Option Reading → Type 0 = λ reading. kw_of reading ≤ kva_of reading in
    cond_both (leb quarter.kw quarter.kva) (Some (record { kw = quarter.kw; kva = quarter.kva })) None Ordered
    (λ posted. leb-true quarter.kw quarter.kva posted) (λ _. omega arith)

-- the figures of a month, by its quarters
module _ (month : Month) (quarters : List Quarter) (read : map reading_of quarters ≡ month.readings) where
  pub peak_kva_read : top (map (λ quarter. kva_of (reading_of quarter)) quarters) ≡ peak_kva month
  unfolding peak_kva
  peak_kva_read = ap top (sym (map-map kva_of reading_of quarters) ∙ ap (map kva_of) read)

  peak_read : top (map (λ quarter. kw_of (reading_of quarter)) quarters) ≡ peak month
  unfolding peak
  peak_read = ap top (sym (map-map kw_of reading_of quarters) ∙ ap (map kw_of) read)

  pub peak_under_kva : peak month ≤ peak_kva month
  peak_under_kva =
      omega (
        arith,
        peak_read,
        peak_kva_read,
        top_below (λ quarter. kw_of (reading_of quarter))
            (λ quarter. kva_of (reading_of quarter)) quarter_ordered quarters,
      )
