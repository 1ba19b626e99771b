use Rattle.std.proofs.Common.{◌≡◌, ℕ, ◌+◌, ◌-◌, ◌*◌, ◌≤◌, List, map, length, take, drop, replicate, ap, ◌∙◌, arith}
use borrow.Rule.Slice.PartMut.{put_mid}
use lib.LanesLaws.{map-replicate}
use lib.Seq.{sets}
use Rattle.std.proofs.lemmas.List.{length-drop, length-replicate, length-take}
use Rattle.store.specs.Records.{hour_of, reading_of}
use Rattle.store.proofs.Stretches.{map_put_mid, same_length}
use Rattle.store.proofs.stretch.clear.Goals as goal

-- a part of n places from a on, filled with one value
filled : {X Y : Type 0} (f : X → Y) (xs part : List X) (a n : ℕ) (v : X)
    → part ≡ replicate (length (take ((a + n) - a) (drop a xs))) v → a + n ≤ length xs
    → (map f (put_mid a ((a + n) - a) xs part) ≡ sets (map f xs) a (replicate n (f v)))
    × (length (put_mid a ((a + n) - a) xs part) ≡ length xs)
filled f xs part a n v are fits =
    let m = length (take ((a + n) - a) (drop a xs)) in
    let same : m ≡ n = simp (length-take, length-drop) (omega arith) in
    let long : length part ≡ n = ap length are ∙ length-replicate m v ∙ same in
    let written = map_put_mid f xs part a ((a + n) - a) (replicate n (f v))
    (ap (map f) are ∙ map-replicate f m v ∙ ap (λ k. replicate k (f v)) same) (omega arith)
    (omega arith) in
    (written, same_length f xs (put_mid a ((a + n) - a) xs part) a (replicate n (f v)) written)

pub returns : goal.returns
returns c =
    let q = filled reading_of c.args.quarters.now c.fill.new.self (2976 * c.args.k)
    (96 * c.args.days) _ (c.fill.ensures.after (λ y e. e)) c.requires.quarters_there in
    let h = filled hour_of c.args.hours.now c.fill-2.new.self (744 * c.args.k)
    (24 * c.args.days) _ (c.fill-2.ensures.after (λ y e. e)) c.requires.hours_there in
    record { quarters = q.0; hours = h.0; quarters_size = q.1; hours_size = h.1 }
