-- The highest of a month of which a part was written over.
use Rattle.std.proofs.Common.{◌≡◌, ℕ, suc, ◌+◌, ◌*◌, ◌<◌, ◌≤◌, max, List, [], ◌∷◌, ◌++◌, map, length, set, take, drop, Option, sym, refl, ap, ◌∙◌, arith}
use lib.Seq.{sets}
use Rattle.std.proofs.Math.Seq.{drop-append_seam, take-append_seam}
use Rattle.std.proofs.lemmas.List.{append_assoc, drop-drop, drop-map, length-map, length-take-le, map-set, take-append-drop, take-map}
use Rattle.std.proofs.lemmas.List.Edits.{sets-eq}
use Rattle.store.specs.Months.{kw_of, quarters_of, top}
use Rattle.store.specs.declared.memory.TheConstants.{MONTH_QUARTERS}
use Rattle.store.specs.Records.{peak_in, reading_of, stretch}
use Rattle.store.specs.declared.memory.Quarter.{Quarter}
use Rattle.store.specs.declared.post.Reading.{Reading}
use Rattle.store.proofs.Alterations.{peak_readings}
use Rattle.store.proofs.Stretches.{length_stretch, stretch_sets}
use Rattle.store.proofs.Windows.{window}

top_append : (xs ys : List ℕ) → top (xs ++ ys) ≡ max (top xs) (top ys)
unfolding top
top_append [] ys = omega arith
top_append (x ∷ xs) ys = omega (arith, top_append xs ys)

map_sets : {X : Type 0} (f : X → ℕ) (xs : List X) (a : ℕ) (vs : List X)
    → map f (sets xs a vs) ≡ sets (map f xs) a (map f vs)
map_sets f xs a [] = refl
map_sets f xs a (v ∷ vs) = map_sets f (set xs a v) (suc a) vs
    ∙ ap (λ ys. sets ys (suc a) (map f vs)) (map-set f xs a v)

-- a list by the part written and what lies before and after it
module _ (xs vs : List ℕ) (a : ℕ) (fits : a + length vs ≤ length xs) where
  top_written : top (sets xs a vs) ≡ max (max (top (take a xs)) (top vs)) (top (drop (a + length vs) xs))
  top_written =
      ap top (sets-eq vs xs a fits) ∙ top_append (take a xs ++ vs) (drop (a + length vs) xs)
      ∙ ap (λ t. max t (top (drop (a + length vs) xs))) (top_append (take a xs) vs)

  top_whole : top xs ≡ max (top (take a xs))
      (max (top (take (length vs) (drop a xs))) (top (drop (a + length vs) xs)))
  top_whole =
      ap top (sym (take-append-drop a xs)) ∙ top_append (take a xs) (drop a xs)
      ∙ ap (λ t. max (top (take a xs)) t)
      (ap top (sym (take-append-drop (length vs) (drop a xs)))
      ∙ top_append (take (length vs) (drop a xs)) (drop (length vs) (drop a xs))
      ∙ ap (λ ys. max (top (take (length vs) (drop a xs))) (top ys)) (drop-drop (length vs) a xs))

  top_sets_over : top xs ≤ top vs → top (sets xs a vs) ≡ top vs
  top_sets_over over = omega (arith, top_written, top_whole)

  top_sets_under : top (take (length vs) (drop a xs)) < top xs → top vs ≤ top xs → top (sets xs a vs) ≡ top xs
  top_sets_under low under = omega (arith, top_written, top_whole)

-- the part as it is read back
pub part_written : {X : Type 0} (xs vs : List X) (a : ℕ) → a + length vs ≤ length xs
    → take (length vs) (drop a (sets xs a vs)) ≡ vs
part_written xs vs a fits =
    let front : length (take a xs) ≡ a = length-take-le a xs (omega (arith, fits)) in
    let rest = vs ++ drop (a + length vs) xs in
    let whole = sets-eq vs xs a fits ∙ append_assoc (take a xs) vs (drop (a + length vs) xs) in
    let past : drop a (sets xs a vs) ≡ rest = ap (drop a) whole
    ∙ ap (λ n. drop n (take a xs ++ rest)) (sym front) ∙ drop-append_seam (take a xs) rest in
    ap (take (length vs)) past ∙ take-append_seam vs (drop (a + length vs) xs)

-- the peak of a month, where what was posted is no lower, and where neither it nor what it replaced
-- is as high
module _ (old quarters : List Quarter) (k days at : ℕ) (posted : List (Option Reading))
    (below : at + length posted ≤ quarters_of days)
    (there : MONTH_QUARTERS * k + quarters_of days ≤ length old)
    (written : map reading_of quarters ≡ sets (map reading_of old) (MONTH_QUARTERS * k + at) posted) where
  kws : List ℕ
  kws = map kw_of (stretch MONTH_QUARTERS k (quarters_of days) (map reading_of old))

  many : at + length (map kw_of posted) ≤ length kws
  unfolding kws
  many =
      let all = length_stretch MONTH_QUARTERS k (quarters_of days) (map reading_of old)
      (rw length-map there) in
      simp (length-map, all) below

  peak_written : peak_in quarters k days ≡ top (sets kws at (map kw_of posted))
  unfolding kws
  peak_written =
      peak_readings quarters k days
      ∙ ap top (ap (map kw_of)
      (ap (stretch MONTH_QUARTERS k (quarters_of days)) written
      ∙ stretch_sets MONTH_QUARTERS k (quarters_of days) (map reading_of old) at posted below)
      ∙ map_sets kw_of (stretch MONTH_QUARTERS k (quarters_of days) (map reading_of old)) at posted)

  peak_before : peak_in old k days ≡ top kws
  unfolding kws
  peak_before = peak_readings old k days

  part_before : take (length (map kw_of posted)) (drop at kws) ≡ map kw_of
      (take (length posted) (drop (MONTH_QUARTERS * k + at) (map reading_of old)))
  unfolding kws stretch
  part_before =
      let readings = map reading_of old in
      ap (λ n. take n (drop at kws)) (length-map posted kw_of)
      ∙ ap (take (length posted))
      (drop-map kw_of at (take (quarters_of days) (drop (MONTH_QUARTERS * k) readings)))
      ∙ take-map kw_of (length posted)
      (drop at (take (quarters_of days) (drop (MONTH_QUARTERS * k) readings)))
      ∙ ap (map kw_of) (window at (length posted) (quarters_of days)
      (drop (MONTH_QUARTERS * k) readings) below
      ∙ ap (take (length posted)) (drop-drop at (MONTH_QUARTERS * k) readings))

  pub part_over : peak_in old k days ≤ top (map kw_of posted)
      → peak_in quarters k days ≡ top (map kw_of posted)
  part_over over =
      peak_written ∙ top_sets_over kws (map kw_of posted) at many (omega (arith, over, peak_before))

  pub part_under : top (map kw_of
      (take (length posted) (drop (MONTH_QUARTERS * k + at) (map reading_of old)))) < peak_in old k days
      → top (map kw_of posted) ≤ peak_in old k days → peak_in quarters k days ≡ peak_in old k days
  part_under low under =
      let part = ap top part_before in
      peak_written ∙ top_sets_under kws (map kw_of posted) at many (omega (arith, low, peak_before, part))
      (omega (arith, under, peak_before)) ∙ sym peak_before
