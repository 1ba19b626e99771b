-- Months by their number: one altered, one more started, and what a month past the last one is.
use Rattle.std.proofs.Common.{◌≡◌, ℕ, ◌<◌, ◌≤◌, true, false, ◌≢◌, List, [], ◌∷◌, ◌++◌, map, length, get_or, take, Some, sym, refl, ap, ◌∙◌, inl, inr, arith}
use lib.Seq.{length-sets}
use Rattle.std.proofs.lemmas.List.{get_or_append_left, get_or_past, get_or_push, get_or-set_other, get_or-set_same, get_or-take, length_push, length-replicate, length-set}
use Rattle.std.proofs.lemmas.Bool.{both_ways, cases_eq, cases_lt}
use Rattle.store.specs.Posts.{month_with_day, month_with_post}
use Rattle.store.specs.declared.post.Post.{Post}
use Rattle.store.specs.declared.post.Post.TheVariants.{Reading as OfReading, Price, Scheduled}
use Rattle.store.specs.declared.post.Reading.{Reading}
use Rattle.book.specs.Views.{View, month_has_reached, month_index}
use Rattle.std.proofs.lemmas.List.Sums.{prefix_len_passes}
use Rattle.store.specs.Months.{Month, months_with, first_short_month, hours_of, new_month, no_month, quarters_of, has_reached}
use Rattle.store.specs.declared.month.State.{State}
use Rattle.store.specs.declared.month.State.TheVariants.{Open, Billed, Final}

pub final_billed : (state : State) → has_reached Final state ≡ true → has_reached Billed state ≡ true
final_billed Open e = e
final_billed Billed e = refl
final_billed Final e = refl

pub unbilled_unsettled : (state : State) → has_reached Billed state ≡ false → has_reached Final state ≡ false
unbilled_unsettled Open e = refl
unbilled_unsettled Billed e = refl
unbilled_unsettled Final e = e

-- a month has as many readings and hours as its days have quarters and hours
abbrev pub Shaped : Month → Type 0
Shaped month = (length month.readings ≡ quarters_of month.days) × (length month.hours ≡ hours_of month.days)

pub new_month_open : (days : ℕ) → (new_month days).state ≡ Open
unfolding new_month
new_month_open days = refl

pub new_month_shaped : (days : ℕ) → Shaped (new_month days)
unfolding new_month
new_month_shaped days = (length-replicate (quarters_of days) _, length-replicate (hours_of days) _)

pub no_month_open : no_month.state ≡ Open
unfolding no_month
no_month_open = new_month_open 0

pub no_month_shaped : Shaped no_month
unfolding no_month
no_month_shaped = new_month_shaped 0

-- the month that is altered, and the others
module _ (months : List Month) (m : ℕ) (alter : Month → Month) (low : 1 ≤ m) where
  pub altered_here : m ≤ length months
      → get_or (months_with (month_index m) alter months) (month_index m) no_month ≡ alter (get_or months (month_index m) no_month)
  altered_here high = get_or-set_same months (month_index m) (alter (get_or months (month_index m) no_month)) no_month (omega arith)

  pub altered_other : (n : ℕ) → 1 ≤ n → n ≢ m
      → get_or (months_with (month_index m) alter months) (month_index n) no_month ≡ get_or months (month_index n) no_month
  altered_other n some other =
      get_or-set_other months (month_index m) (month_index n) (alter (get_or months (month_index m) no_month)) no_month (λ e. other (omega arith))

  pub altered_at : m ≤ length months → (n : ℕ) → 1 ≤ n → (P : Month → Type 0)
      → (n ≡ m → P (alter (get_or months (month_index m) no_month)))
      → (n ≢ m → P (get_or months (month_index n) no_month))
      → P (get_or (months_with (month_index m) alter months) (month_index n) no_month)
  altered_at high n some P here there =
      elim (cases_eq n m) [
        | inl same ↦ rw same (rw (altered_here high) (here same))
        | inr other ↦ rw (altered_other n some other) (there other)
      ]

-- one more month alters no other place
pub pushed_other : (months : List Month) (new : Month) (k : ℕ) → k ≢ length months
    → get_or (months ++ new ∷ []) k no_month ≡ get_or months k no_month
pushed_other months new k other =
    elim (cases_lt k (length months)) [
      | inl before ↦ get_or_append_left months (new ∷ []) no_month k before
      | inr past ↦
          let beyond : length months < k = elim (cases_lt (length months) k) [ inl lt ↦ lt | inr ge ↦ elim (other (omega arith)) [ ] ] in
          get_or_past (months ++ new ∷ []) k no_month (omega (arith, length_push months new)) ∙ sym (get_or_past months k no_month past)
    ]

-- it is open, and so was its place
pub pushed_state : (months : List Month) (days k : ℕ)
    → (get_or (months ++ new_month days ∷ []) k no_month).state ≡ (get_or months k no_month).state
pushed_state months days k =
    elim (cases_eq k (length months)) [
      | inl here ↦
          let new = get_or_push months (new_month days) no_month k (sym here) in
          let none = get_or_past months k no_month (omega arith) in
          ap (λ month. month.state) new ∙ new_month_open days ∙ sym (ap (λ month. month.state) none ∙ no_month_open)
      | inr other ↦ ap (λ month. month.state) (pushed_other months (new_month days) k other)
    ]

-- only a month that was started was billed
pub billed_there : (v : View) (m : ℕ) → 1 ≤ m → month_has_reached Billed m v ≡ true → m ≤ length v.months
billed_there v m low billed =
    elim (cases_lt (length v.months) m) [
      | inl past ↦
          let state = ap (λ month. month.state) (get_or_past v.months (month_index m) no_month (omega arith)) ∙ no_month_open in
          elim (both_ways (month_has_reached Billed m v) (ap (has_reached Billed) state) billed) [ ]
      | inr there ↦ there
    ]

-- an alteration that keeps a month's state, and how many readings and hours it has
pub record Fills (alter : Month → Month) : Type 0 where
  pub state : (month : Month) → (alter month).state ≡ month.state
  pub shaped : (month : Month) → Shaped month → Shaped (alter month)

pub post_fills : (place : ℕ) (post : Post) → Fills (month_with_post place post)
post_fills place (OfReading posted) = record {
  state = λ month. refl;
  shaped = λ month shaped. (length-sets month.readings place (map Some (posted ∷ [])) ∙ shaped.0, shaped.1);
}
post_fills place (Price price) = record {
  state = λ month. refl;
  shaped = λ month shaped. (shaped.0, length-set month.hours place _ ∙ shaped.1);
}
post_fills place (Scheduled kw) = record {
  state = λ month. refl;
  shaped = λ month shaped. (shaped.0, length-set month.hours place _ ∙ shaped.1);
}

pub day_fills : (day : ℕ) (readings : List Reading) → Fills (month_with_day day readings)
day_fills day readings = record {
  state = λ month. refl;
  shaped = λ month shaped. (length-sets month.readings (quarters_of day) (map Some readings) ∙ shaped.0, shaped.1);
}

-- where no earlier month is short of a state, each has reached it
pub none_short : (state : State) (v : View) (m n : ℕ)
    → month_index m ≤ first_short_month state v.months (month_index m) → 1 ≤ n → n < m
    → month_has_reached state n v ≡ true
none_short state v m n all low before =
    let passes = prefix_len_passes (λ month. has_reached state month.state) (take (month_index m) v.months) (month_index n) no_month (omega arith) in
    let same = get_or-take (month_index m) v.months (month_index n) no_month (omega arith) in
    ap (λ month. has_reached state month.state) (sym same) ∙ passes
