-- Parts of memory and of the records, place by place.
use Rattle.std.proofs.Common.{◌≡◌, ℕ, ◌+◌, ◌-◌, ◌<◌, ◌≤◌, min, Bool, true, not, ltb, cond, Some, None, Option, List, [], ◌∷◌, ◌++◌, map, length, get_or, take, drop, sym, refl, ap, ◌∙◌, ⊎_elim, arith}
use Rattle.std.specs.Prelude.{MatchOption}
use Rattle.std.specs.List.{position, prefix_len, range_with_len}
use Rattle.std.proofs.Math.Bool.{not-not}
use Rattle.std.proofs.lemmas.List.Sums.{prefix_len-drop_no, prefix_len-le-length}
use Rattle.std.proofs.lemmas.List.FromFn.{length-map-range_with_len, take-map-range_with_len, fill_by_all}
use Rattle.std.proofs.lemmas.List.{get_or-take, get_or-drop, length-map, length-take-le, length-drop, drop-take, take_all, take-append-drop, take-take}
use Rattle.std.proofs.lemmas.Bool.{cases_lt, cond_both, cond-false, cond-true, le-ltb, lt-ltb, ltb-false, ltb-true}

-- the first that fails a test, of a list that was made from another
pub leading_map : {X Y : Type 0} (p : Y → Bool) (f : X → Y) (xs : List X)
    → prefix_len p (map f xs) ≡ prefix_len (λ x. p (f x)) xs
leading_map p f [] = refl
leading_map p f (x ∷ xs) = ap (λ n. cond (p (f x)) (1 + n) 0) (leading_map p f xs)

pub position_map : {X Y : Type 0} (p : Y → Bool) (f : X → Y) (xs : List X)
    → position p (map f xs) ≡ position (λ x. p (f x)) xs
position_map p f xs = rw (leading_map (λ y. not (p y)) f xs, length-map xs f)

pub leading_not : {X : Type 0} (p : X → Bool) (xs : List X)
    → prefix_len (λ x. not (not (p x))) xs ≡ prefix_len p xs
leading_not p [] = refl
leading_not p (x ∷ xs) = rw (not-not (p x), leading_not p xs)

pub position_fails : {X : Type 0} (p : X → Bool) (xs : List X) (found : Option ℕ)
    → found ≡ position (λ x. not (p x)) xs
    → MatchOption found (prefix_len p xs ≡ length xs) (λ i. (prefix_len p xs ≡ i) × (i < length xs))
position_fails p xs found is =
    let n = prefix_len p xs in
    let most = prefix_len-le-length p xs in
    let Fails : Option ℕ → Type 0 =
    λ found. MatchOption found (n ≡ length xs) (λ i. (n ≡ i) × (i < length xs)) in
    rw (is, leading_not p xs)
    (cond_both (ltb n (length xs)) (Some n) None Fails (λ less. (refl, ltb-true n (length xs) less))
    (λ more. omega (arith, ltb-false n (length xs) more)))

-- a search from the front that has come to place i
module _ {X : Type 0} (p : X → Bool) (xs : List X) (i : ℕ)
    (searched : prefix_len (λ x. not (p x)) xs ≡ i + prefix_len (λ x. not (p x)) (drop i xs)) where
  pub position_found : (d : X) → i < length xs → p (get_or xs i d) ≡ true → Some i ≡ position p xs
  position_found d here passes =
      let first : prefix_len (λ x. not (p x)) xs ≡ i =
      omega (arith, searched, prefix_len-drop_no (λ x. not (p x)) xs i d here (ap not passes)) in
      ap Some (sym first) ∙ sym (cond-true _ _ _ (lt-ltb _ (length xs) (omega (arith, first, here))))

  pub position_passed : length xs ≤ i → None ≡ position p xs
  position_passed past = sym (cond-false _ _ _ (le-ltb _ (length xs) (omega (arith, searched, past))))

-- a part of a list, place by place
pub part_counted : {X : Type 0} (xs : List X) (a n : ℕ) (d : X) → a + n ≤ length xs
    → take n (drop a xs) ≡ map (λ j. get_or xs (a + j) d) (range_with_len 0 n)
part_counted xs a n d fits =
    fill_by_all (λ j. get_or xs (a + j) d) (take n (drop a xs)) n d
    (length-take-le n (drop a xs) (rw length-drop (omega arith)))
    (λ k here. rw (get_or-take, get_or-drop))

-- the front of a counted list, whether or not it is that long
pub take_counted : {X : Type 0} (f : ℕ → X) (n k m : ℕ) → m ≡ min n k
    → take k (map f (range_with_len 0 n)) ≡ map f (range_with_len 0 m)
take_counted f n k m is =
    ⊎_elim
    (λ (within : k < n). let same : k ≡ m = omega arith in
    rw (take-map-range_with_len f 0 n k (omega arith), same))
    (λ (past : n ≤ k). let same : n ≡ m = omega arith in
    let short : length (map f (range_with_len 0 n)) ≤ k = rw length-map-range_with_len past in
    rw (take_all k (map f (range_with_len 0 n)) short, same))
    (cases_lt k n)

-- a window into the front of a list is one into the list
pub window : {X : Type 0} (a w m : ℕ) (xs : List X) → a + w ≤ m
    → take w (drop a (take m xs)) ≡ take w (drop a xs)
window a w m xs fits =
    let rest : a + (m - a) ≡ m = omega arith in
    let room : w ≤ m - a = omega arith in
    rw (sym rest, drop-take a (m - a) xs, take-take w (m - a) (drop a xs) room)

pub take_two : {X : Type 0} (m n : ℕ) (xs : List X) → take m xs ++ take n (drop m xs) ≡ take (m + n) xs
take_two m n xs =
    let within : m ≤ m + n = omega arith in
    rw (sym (take-take m (m + n) xs within), sym (drop-take m n xs)) (take-append-drop m (take (m + n) xs))
