-- Where in the memory the record of each quarter and hour stands.
use Rattle.std.proofs.Common.{◌≡◌, ℕ, zero, suc, ◌+◌, ◌*◌, ◌<◌, ◌≤◌, Some, List, [], ◌∷◌, map, length, take, drop, sym, refl, ap, ◌∙◌, inl, inr, arith}
use Rattle.std.specs.Prelude.{option_map, slice_get}
use Rattle.std.proofs.lemmas.Bool.{cases_lt}
use Rattle.std.proofs.lemmas.Option.{slice_get-map, slice_get_cases}
use Rattle.store.specs.Months.{hours_of, quarters_of}
use Rattle.store.specs.Records.{hour_of, reading_of, record_in, stretch}
use Rattle.store.specs.Stores.{Filed, Stands, month_in}
use Rattle.store.specs.declared.memory.TheConstants.{MONTH_HOURS, MONTH_QUARTERS}
use Rattle.store.specs.declared.month.TheConstants.{MOST_DAYS}
use Rattle.store.proofs.Views.{days_recorded, hours_read, no_days, readings_read}

module _ {X : Type 0} where
  slice_get-drop : (a : ℕ) (xs : List X) (i : ℕ) → slice_get (drop a xs) i ≡ slice_get xs (a + i)
  slice_get-drop zero xs i =
      let same : i ≡ 0 + i = omega arith in
      ap (slice_get xs) same
  slice_get-drop (suc a) [] i = refl
  slice_get-drop (suc a) (x ∷ xs) i =
      let next : suc (a + i) ≡ suc a + i = omega arith in
      slice_get-drop a xs i ∙ ap (slice_get (x ∷ xs)) next

  pub slice_get-take : (n : ℕ) (xs : List X) (i : ℕ) → i < n → slice_get (take n xs) i ≡ slice_get xs i
  slice_get-take (suc n) [] i below = refl
  slice_get-take (suc n) (x ∷ xs) zero below = refl
  slice_get-take (suc n) (x ∷ xs) (suc i) below = slice_get-take n xs i (omega arith)
  slice_get-take zero xs i below = absurd (omega arith)

  -- place i of a month's stretch, as the whole memory has it
  held_at : {Y : Type 0} (f : X → Y) (room k n : ℕ) (memory : List X) (i : ℕ) → i < n
      → room * k + n ≤ length memory
      → (held : X) × (slice_get memory (room * k + i) ≡ Some held)
      × (slice_get (map f (stretch room k n memory)) i ≡ Some (f held))
  unfolding stretch
  held_at f room k n memory i below fits =
      elim ((slice_get_cases memory (room * k + i)).1) [
        | inl found ↦ (
          found.0,
          found.2,
          slice_get-map f (stretch room k n memory) i
              ∙ ap (option_map f) (slice_get-take n (drop (room * k) memory) i below
              ∙ slice_get-drop (room * k) memory i ∙ found.2),
        )
        | inr past ↦ absurd (omega (arith, past.0, fits, below))
      ]

-- a month that has days was started
started : (file : Filed) (k : ℕ) → 0 < (month_in file k).days
    → (k < file.started) × ((month_in file k).days ≤ MOST_DAYS)
started file k some =
    elim (cases_lt k file.started) [
      | inl here ↦ (here, omega (arith, days_recorded file k here, (record_in file.records k).length.1))
      | inr past ↦ absurd (omega (arith, no_days file k past, some))
    ]

pub stands : (file : Filed) → Stands file
stands file = record {
  quarters = λ k quarter below.
      let days = (month_in file k).days in
      let there = started file k (omega (arith, below)) in
      let found = held_at reading_of MONTH_QUARTERS k (quarters_of days) file.quarters quarter below
      (omega (arith, there.0, there.1, file.quarters_fit)) in
      (found.0, found.1, ap (λ readings. slice_get readings quarter) (sym (readings_read file k)) ∙ found.2);
  hours = λ k hour below.
      let days = (month_in file k).days in
      let there = started file k (omega (arith, below)) in
      let found = held_at hour_of MONTH_HOURS k (hours_of days) file.hours hour below
      (omega (arith, there.0, there.1, file.hours_fit)) in
      (found.0, found.1, ap (λ hours. slice_get hours hour) (sym (hours_read file k)) ∙ found.2);
}
