-- Stretches of memory and the months in them, after writes.
use Rattle.std.proofs.Common.{◌≡◌, ℕ, suc, ◌+◌, ◌-◌, ◌*◌, ◌<◌, ◌≤◌, ◌≢◌, List, [], ◌∷◌, ◌++◌, map, length, get_or, take, drop, set, replicate, sym, refl, ap, ◌∙◌, inl, inr, add-suc, add-zero, mul-le-mul_left, mul-add, arith, length-drop, length-take}
use borrow.Rule.Slice.PartMut.{put_mid}
use lib.Seq.{sets, length-sets}
use Rattle.std.specs.List.{range_with_len}
use Rattle.std.proofs.Math.Seq.{take-set-lt}
use Rattle.std.proofs.lemmas.List.FromFn.{get_or-map-range_with_len, length-map-range_with_len, map-range_with_len_more}
use Rattle.std.proofs.lemmas.List.Edits.{paste_all, sets-eq}
use Rattle.std.proofs.lemmas.List.{append_assoc, append-nil, drop_all, drop-drop, drop-map, drop-set-add, drop-set-lt, take-append-drop, take-set-le, ext_get_or, get_or-drop, get_or-take, get_or-set_other, get_or-set_same, length-map, length-replicate, length-set, map-append, same_lists, take-map}
use Rattle.std.proofs.lemmas.Slice.{put_mid-paste}
use Rattle.std.proofs.lemmas.Bool.{cases_eq, cases_lt}
use Rattle.store.specs.Months.{Month, months_with, no_month}
use Rattle.store.specs.Records.{stretch}
use Rattle.store.specs.Stores.{Filed, month_of, months_of}

-- ---- stretches

module _ {X : Type 0} where
  pub stretch_map : {Y : Type 0} (f : X → Y) (room k n : ℕ) (xs : List X)
      → map f (stretch room k n xs) ≡ stretch room k n (map f xs)
  unfolding stretch
  stretch_map f room k n xs = sym (ap (take n) (drop-map f (room * k) xs) ∙ take-map f n (drop (room * k) xs))

  pub length_stretch : (room k n : ℕ) (xs : List X) → room * k + n ≤ length xs
      → length (stretch room k n xs) ≡ n
  unfolding stretch
  length_stretch room k n xs there = simp (length-take, length-drop) (omega arith)

  pub get_or_stretch : (room k n : ℕ) (xs : List X) (i : ℕ) (d : X) → i < n
      → get_or (stretch room k n xs) i d ≡ get_or xs (room * k + i) d
  unfolding stretch
  get_or_stretch room k n xs i d below = get_or-take n (drop (room * k) xs) i d below
      ∙ get_or-drop (room * k) xs i d

  -- one place written, in another month and in the month's own
  pub stretch_set_other : (room j k n : ℕ) (xs : List X) (at : ℕ) (v : X) → j ≢ k → n ≤ room → at < room
      → stretch room j n (set xs (room * k + at) v) ≡ stretch room j n xs
  unfolding stretch
  stretch_set_other room j k n xs at v other short below =
      let place = room * k + at in
      elim (cases_lt j k) [
        | inl before ↦
            let far : room * j + n ≤ place =
            omega (arith, mul-le-mul_left {m = j + 1} {n = k} room (omega arith), mul-add room j 1) in
            let rest : place ≡ room * j + (place - room * j) = omega arith in
            ap (λ i. take n (drop (room * j) (set xs i v))) rest
            ∙ ap (take n) (drop-set-add (room * j) xs (place - room * j) v)
            ∙ take-set-le n (drop (room * j) xs) (place - room * j) v (omega arith)
        | inr after ↦
            ap (take n) (drop-set-lt (room * j) xs place v
            (omega (
              arith,
              mul-le-mul_left {m = k + 1} {n = j} room (omega (arith, other)),
              mul-add room k 1,
            )))
      ]

  pub stretch_set : (room k n : ℕ) (xs : List X) (at : ℕ) (v : X) → at < n
      → stretch room k n (set xs (room * k + at) v) ≡ set (stretch room k n xs) at v
  unfolding stretch
  stretch_set room k n xs at v below = ap (take n) (drop-set-add (room * k) xs at v)
      ∙ take-set-lt n (drop (room * k) xs) at v below

  -- places in a row
  pub stretch_sets_other : (room j k n : ℕ) (xs : List X) (at : ℕ) (vs : List X) → j ≢ k → n ≤ room
      → at + length vs ≤ room → stretch room j n (sets xs (room * k + at) vs) ≡ stretch room j n xs
  stretch_sets_other room j k n xs at [] other short below = refl
  stretch_sets_other room j k n xs at (v ∷ vs) other short below =
      let more = stretch_sets_other room j k n (set xs (room * k + at) v) (suc at) vs other short
      (omega arith) in
      rw (← add-suc (room * k) at) (more ∙ stretch_set_other room j k n xs at v other short (omega arith))

  pub stretch_sets : (room k n : ℕ) (xs : List X) (at : ℕ) (vs : List X) → at + length vs ≤ n
      → stretch room k n (sets xs (room * k + at) vs) ≡ sets (stretch room k n xs) at vs
  stretch_sets room k n xs at [] below = refl
  stretch_sets room k n xs at (v ∷ vs) below =
      let more = stretch_sets room k n (set xs (room * k + at) v) (suc at) vs (omega arith) in
      rw (← add-suc (room * k) at)
      (more ∙ ap (λ ys. sets ys (suc at) vs) (stretch_set room k n xs at v (omega arith)))

  -- one place more, behind those written in a row
  pub sets_push : (xs : List X) (at : ℕ) (vs : List X) (v : X)
      → sets xs at (vs ++ v ∷ []) ≡ set (sets xs at vs) (at + length vs) v
  sets_push xs at [] v = ap (λ i. set xs i v) (sym (add-zero at))
  sets_push xs at (w ∷ vs) v =
      let place : suc at + length vs ≡ at + suc (length vs) = omega arith in
      sets_push (set xs at w) (suc at) vs v ∙ ap (λ i. set (sets (set xs at w) (suc at) vs) i v) place

  -- a part written within a stretch of a list, as the whole list has it
  set_between : (xs : List X) (a n at : ℕ) (vs : List X) → at + length vs ≤ n
      → take a xs ++ (sets (take n (drop a xs)) at vs ++ drop (a + n) xs) ≡ sets xs (a + at) vs
  set_between xs a n at [] fits =
      ap (λ rest. take a xs ++ (take n (drop a xs) ++ rest)) (sym (drop-drop n a xs))
      ∙ ap (λ rest. take a xs ++ rest) (take-append-drop n (drop a xs)) ∙ take-append-drop a xs
  set_between xs a n at (v ∷ vs) fits =
      let new = set xs (a + at) v in
      let front : take a new ≡ take a xs = take-set-le a xs (a + at) v (omega arith) in
      let part : take n (drop a new) ≡ set (take n (drop a xs)) at v =
      ap (take n) (drop-set-add a xs at v) ∙ take-set-lt n (drop a xs) at v (omega arith) in
      let rest : drop (a + n) new ≡ drop (a + n) xs = drop-set-lt (a + n) xs (a + at) v (omega arith) in
      let more = set_between new a n (suc at) vs (omega arith) in
      rw (← front, ← part, ← rest, ← add-suc a at) more

  pub sets_within : (xs : List X) (a n at : ℕ) (vs : List X) → at + length vs ≤ n → a + n ≤ length xs
      → sets xs a (sets (take n (drop a xs)) at vs) ≡ sets xs (a + at) vs
  sets_within xs a n at vs fits there =
      let part = take n (drop a xs) in
      let many : length (sets part at vs) ≡ n = length-sets part at vs
      ∙ simp (length-take, length-drop) (omega arith) in
      sets-eq (sets part at vs) xs a (omega (arith, many))
      ∙ append_assoc (take a xs) (sets part at vs) _
      ∙ ap (λ k. take a xs ++ (sets part at vs ++ drop (a + k) xs)) many ∙ set_between xs a n at vs fits

  pub sets_all : (xs vs : List X) → length vs ≡ length xs → sets xs 0 vs ≡ vs
  sets_all xs vs many =
      sets-eq vs xs 0 (omega arith) ∙ ap (λ ys. vs ++ ys) (drop_all (0 + length vs) xs (omega arith))
      ∙ append-nil vs

  -- a whole stretch written with one value
  pub stretch_cleared : (room k n : ℕ) (xs : List X) (v : X) → room * k + n ≤ length xs
      → stretch room k n (sets xs (room * k + 0) (replicate n v)) ≡ replicate n v
  stretch_cleared room k n xs v there =
      let many = length-replicate n v in
      stretch_sets room k n xs 0 (replicate n v) (omega (arith, many))
      ∙ sets_all (stretch room k n xs) (replicate n v) (many ∙ sym (length_stretch room k n xs there))

-- a part written as a whole
pub map_put_mid : {X Y : Type 0} (f : X → Y) (xs ys : List X) (a n : ℕ) (vs : List Y) → map f ys ≡ vs
    → length ys ≡ n → a + n ≤ length xs → map f (put_mid a n xs ys) ≡ sets (map f xs) a vs
map_put_mid f xs ys a n vs are many fits =
    let new : length vs ≡ n = sym (ap length are) ∙ length-map ys f ∙ many in
    let put = put_mid-paste a n xs ys ys n refl refl (sym many) ∙ paste_all xs a ys n (sym many) in
    let wrote = sets-eq vs (map f xs) a (rw (new, length-map) fits) in
    ap (map f) put ∙ map-append f (take a xs) (ys ++ drop (a + n) xs)
    ∙ ap (λ zs. map f (take a xs) ++ zs) (map-append f ys (drop (a + n) xs))
    ∙ ap (λ zs. map f (take a xs) ++ (zs ++ map f (drop (a + n) xs))) are
    ∙ sym (wrote ∙ append_assoc (take a (map f xs)) vs (drop (a + length vs) (map f xs))
    ∙ rw (new, take-map f a xs, drop-map f (a + n) xs) refl)

pub same_length : {X Y : Type 0} (f : X → Y) (xs ys : List X) (a : ℕ) (vs : List Y)
    → map f ys ≡ sets (map f xs) a vs → length ys ≡ length xs
same_length f xs ys a vs written = sym (length-map ys f) ∙ ap length written ∙ length-sets (map f xs) a vs
    ∙ length-map xs f

-- ---- months

pub length_months : (s : Filed) → length (months_of s) ≡ s.started
unfolding months_of
length_months s = length-map-range_with_len (month_of s) 0 s.started

pub get_or_months : (s : Filed) (k : ℕ) (d : Month) → k < s.started → get_or (months_of s) k d ≡ month_of s k
unfolding months_of
get_or_months s k d below = get_or-map-range_with_len (month_of s) 0 s.started k k d below (omega arith)

pub months_same : (s t : Filed) → t.started ≡ s.started
    → ((j : ℕ) → j < s.started → month_of t j ≡ month_of s j) → months_of t ≡ months_of s
months_same s t started same =
    ext_get_or no_month _ _ (length_months t ∙ started ∙ sym (length_months s)) (λ j h.
    let below : j < s.started = omega (arith, length_months t) in
    get_or_months t j no_month (omega arith) ∙ same j below ∙ sym (get_or_months s j no_month below))

-- one month altered, and none past the last
pub months_altered : (s t : Filed) (k : ℕ) (alter : Month → Month) → t.started ≡ s.started → k < s.started
    → month_of t k ≡ alter (month_of s k) → ((j : ℕ) → j < s.started → j ≢ k → month_of t j ≡ month_of s j)
    → months_of t ≡ months_with k alter (months_of s)
months_altered s t k alter started there own others =
    let known = get_or_months s k no_month there in
    ext_get_or no_month _ _ (length_months t ∙ started ∙ sym (length_months s)
    ∙ sym (length-set (months_of s) k (alter (get_or (months_of s) k no_month)))) (λ j h.
    let below : j < s.started = omega (arith, length_months t) in
    let new = get_or_months t j no_month (omega arith) in
    elim (cases_eq j k) [
      | inl same ↦
          let place = get_or-set_same (months_of s) k (alter (get_or (months_of s) k no_month)) no_month
          (omega (arith, length_months s)) in
          cc
      | inr other ↦
          let place = get_or-set_other (months_of s) k j
          (alter (get_or (months_of s) k no_month)) no_month other in
          let old = get_or_months s j no_month below in
          let kept = others j below other in
          cc
    ])

-- one month more
counted_same : {X : Type 0} (f g : ℕ → X) (n : ℕ) → ((j : ℕ) → j < n → f j ≡ g j)
    → map f (range_with_len 0 n) ≡ map g (range_with_len 0 n)
counted_same f g n same =
    same_lists _ _ (length-map-range_with_len f 0 n ∙ sym (length-map-range_with_len g 0 n)) (λ j d h.
    let below : j < n = omega (arith, length-map-range_with_len f 0 n) in
    get_or-map-range_with_len f 0 n j j d below (omega arith) ∙ same j below
    ∙ sym (get_or-map-range_with_len g 0 n j j d below (omega arith)))

pub months_pushed : (s t : Filed) (month : Month) → t.started ≡ s.started + 1
    → month_of t s.started ≡ month → ((j : ℕ) → j < s.started → month_of t j ≡ month_of s j)
    → months_of t ≡ months_of s ++ month ∷ []
unfolding months_of
months_pushed s t month started last same =
    ap (λ n. map (month_of t) (range_with_len 0 n)) started
    ∙ map-range_with_len_more (month_of t) 0 s.started s.started (omega arith)
    ∙ ap (λ m. map (month_of t) (range_with_len 0 s.started) ++ m ∷ []) last
    ∙ ap (λ ms. ms ++ month ∷ []) (counted_same (month_of t) (month_of s) s.started same)
