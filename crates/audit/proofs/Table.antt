-- A step leaves the book as it is where a row of the table holds; else it makes of it what the call does, and no row holds.
use Rattle.std.proofs.Common.{◌≡◌, ℕ, ◌+◌, ◌<◌, ◌≤◌, Bool, true, false, cond, not, leb, List, [], ◌∷◌, length, is_ok, is_some, is_none, Some, None, Ok, Err, Option, Result, refl, arith}
use Rattle.std.specs.List.{AllByRecursion}
use Rattle.std.proofs.lemmas.Bool.{and_parts, eqb-true, leb-false, leb-true, ltb-false, not-false}
use Rattle.store.specs.declared.post.Post.{Post}
use Rattle.store.specs.declared.post.Reading.{Reading}
use Rattle.book.specs.Calls.{Call, Reply, opens, starts, posts, posts_day, bills, trues_up, finalises}
use Rattle.book.specs.Steps.{answer, reply, reply_unless, step, view_after, view_unless}
use Rattle.book.specs.Table.{Row, first_holding, is_fault, refusal_of, rows}
use Rattle.book.specs.Views.{View, altered_line, month_has_reached, is_month, month_at, month_index, month_outcome}
use Rattle.store.specs.Months.{first_short_month, quarters_of}
use Rattle.store.specs.Posts.{post_places}
use Rattle.store.specs.declared.memory.TheConstants.{DAY_QUARTERS}
use Rattle.store.specs.declared.month.State.TheVariants.{Billed, Final}
use Rattle.tariff.specs.Pricing.{Meaning}
use Rattle.tariff.specs.declared.refusal.Refusal.{Refusal}
use Rattle.audit.specs.Runs.{is_accepted}

row_passed : (holds : Bool) (refusal : Refusal) (rest : Option Refusal)
    → cond holds (Some refusal) rest ≡ None → (holds ≡ false) × (rest ≡ None)
row_passed true refusal rest e = (cc, cc)
row_passed false refusal rest e = (refl, e)

none_holds : (rows : List Row) → first_holding rows ≡ None → AllByRecursion (λ r. r.holds ≡ false) rows
none_holds [] e = tt
none_holds (r ∷ rs) e = let passed = row_passed r.holds r.refusal (first_holding rs) e in (passed.0, none_holds rs passed.1)

by_refusal : (o : Option Refusal) (made v : View) (P : View → Option Refusal → Type 0)
    → ((refusal : Refusal) → P v (Some refusal)) → (o ≡ None → P made None) → P (view_unless o made v) o
by_refusal None made v P kept moved = moved refl
by_refusal (Some refusal) made v P kept moved = kept refusal

-- by what it was answered, and by whether it was accepted
module _ (meaning : Meaning) (call : Call) (v : View) where
  pub by_answer : (P : View → Result (Reply call) Refusal → Type 0) → ((refusal : Refusal) → P v (Err refusal))
      → (refusal_of meaning call v ≡ None → P (view_after meaning call v) (Ok (reply meaning call v)))
      → P (step meaning call v) (answer meaning call v)
  by_answer P =
      by_refusal (refusal_of meaning call v) (view_after meaning call v) v (λ w o. P w (reply_unless o (reply meaning call v)))

  pub by_step : (P : View → Bool → Type 0) → P v false
      → (refusal_of meaning call v ≡ None → P (view_after meaning call v) true)
      → P (step meaning call v) (is_accepted meaning call v)
  by_step P kept = by_answer (λ w answered. P w (is_ok answered)) (λ refusal. kept)

-- a month that was started, by its number
pub month_there : (m : ℕ) (v : View) → is_month m v ≡ true → (1 ≤ m) × (m ≤ length v.months)
month_there m v e =
    let both = and_parts (leb 1 m) (leb m (length v.months)) e in
    (leb-true 1 m both.0, leb-true m (length v.months) both.1)

-- a call that names a month finds it
pub record Names (m : ℕ) (v : View) : Type 0 where
  pub opened : is_some v.point ≡ true
  pub low : 1 ≤ m
  pub high : m ≤ length v.months

-- a day that has no fault has its readings
faultless : (all : Bool) (place : ℕ) (fault : Option ℕ)
    → is_some (cond (not all) (Some place) fault) ≡ false → all ≡ true
faultless true place fault e = refl
faultless false place fault e = cc

names : (m : ℕ) (v : View) → is_none v.point ≡ false → not (is_month m v) ≡ false → Names m v
names m v opened e =
    let there = month_there m v (not-false (is_month m v) e) in
    record { opened = not-false (is_some v.point) opened; low = there.0; high = there.1 }

-- what the rows of the calls say where none holds
module _ (meaning : Meaning) (v : View) where
  pub opening : (code : List ℕ) (contract substation : ℕ) (carried : List ℕ)
      → refusal_of meaning (opens code contract substation carried) v ≡ None → is_some v.point ≡ false
  opening code contract substation carried e = (none_holds (rows meaning (opens code contract substation carried) v) e).0

  pub starting : (days : ℕ) → refusal_of meaning (starts days) v ≡ None → is_some v.point ≡ true
  starting days e = not-false (is_some v.point) (none_holds (rows meaning (starts days) v) e).0

  pub record Posting (m : ℕ) : Type 0 where
    pub names : Names m v
    pub unsettled : month_has_reached Final m v ≡ false

  pub posting : (m place : ℕ) (post : Post) → refusal_of meaning (posts m place post) v ≡ None → Posting m
  posting m place post e =
      let h = none_holds (rows meaning (posts m place post) v) e in
      record { names = names m v h.0 h.1.0; unsettled = h.1.1.0 }

  pub posting_day : (m day : ℕ) (code : List ℕ) (readings : List Reading)
      → refusal_of meaning (posts_day m day code readings) v ≡ None → Posting m
  posting_day m day code readings e =
      let h = none_holds (rows meaning (posts_day m day code readings) v) e in
      record { names = names m v h.0 h.1.0; unsettled = h.1.1.0 }

  pub place_there : (m place : ℕ) (post : Post) → refusal_of meaning (posts m place post) v ≡ None
      → place < post_places post (month_at m v).days
  place_there m place post e =
      leb-false (post_places post (month_at m v).days) place (none_holds (rows meaning (posts m place post) v) e).1.1.1.0

  pub day_there : (m day : ℕ) (code : List ℕ) (readings : List Reading)
      → refusal_of meaning (posts_day m day code readings) v ≡ None
      → quarters_of day + length readings ≤ quarters_of (month_at m v).days
  day_there m day code readings e =
      let h = none_holds (rows meaning (posts_day m day code readings) v) e in
      let all = eqb-true (length readings) DAY_QUARTERS (faultless _ _ _ h.1.1.1.1.1.0) in
      let day : day < (month_at m v).days = leb-false (month_at m v).days day h.1.1.1.0 in
      omega arith

  pub record Billing (m : ℕ) : Type 0 where
    pub names : Names m v
    pub unbilled : month_has_reached Billed m v ≡ false
    pub earlier : month_index m ≤ first_short_month Billed v.months (month_index m)
    pub prices : is_fault (month_outcome meaning v m) ≡ false

  pub billing : (m : ℕ) → refusal_of meaning (bills m) v ≡ None → Billing m
  billing m e =
      let h = none_holds (rows meaning (bills m) v) e in
      record {
        names = names m v h.0 h.1.0;
        unbilled = h.1.1.1.0;
        earlier = ltb-false (first_short_month Billed v.months (month_index m)) (month_index m) h.1.1.1.1.0;
        prices = h.1.1.1.1.1.0;
      }

  pub record Truing (m : ℕ) : Type 0 where
    pub names : Names m v
    pub unsettled : month_has_reached Final m v ≡ false
    pub billed : month_has_reached Billed m v ≡ true
    pub prices : is_fault (month_outcome meaning v m) ≡ false

  pub truing : (m : ℕ) → refusal_of meaning (trues_up m) v ≡ None → Truing m
  truing m e =
      let h = none_holds (rows meaning (trues_up m) v) e in
      record {
        names = names m v h.0 h.1.0;
        unsettled = h.1.1.0;
        billed = not-false (month_has_reached Billed m v) h.1.1.1.0;
        prices = h.1.1.1.1.0;
      }

  pub record Finalising (m : ℕ) : Type 0 where
    pub names : Names m v
    pub unsettled : month_has_reached Final m v ≡ false
    pub billed : month_has_reached Billed m v ≡ true
    pub earlier : month_index m ≤ first_short_month Final v.months (month_index m)
    pub prices : is_fault (month_outcome meaning v m) ≡ false
    pub current : is_some (altered_line meaning v m) ≡ false

  pub finalising : (m : ℕ) → refusal_of meaning (finalises m) v ≡ None → Finalising m
  finalising m e =
      let h = none_holds (rows meaning (finalises m) v) e in
      record {
        names = names m v h.0 h.1.0;
        unsettled = h.1.1.0;
        billed = not-false (month_has_reached Billed m v) h.1.1.1.0;
        earlier = ltb-false (first_short_month Final v.months (month_index m)) (month_index m) h.1.1.1.1.0;
        prices = h.1.1.1.1.1.0;
        current = h.1.1.1.1.1.1.0;
      }
