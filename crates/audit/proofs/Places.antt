-- A month's quarters, hours and days after something was put on file.
use Rattle.std.proofs.Common.{◌≡◌, ℕ, suc, ◌+◌, ◌-◌, ◌<◌, ◌≤◌, Bool, true, false, cond, leb, List, [], ◌∷◌, map, length, get_or, set, replicate, Some, None, Option, sym, refl, ap, ◌∙◌, inl, inr, arith}
use lib.Seq.{sets}
use Rattle.std.specs.Prelude.{◌==◌, slice_get}
use Rattle.std.specs.Option.{option_map_or}
use Rattle.std.proofs.lemmas.List.{get_or-replicate, get_or-set_other, get_or-set_same, get_or_past, length-replicate, length-set}
use Rattle.std.proofs.lemmas.Bool.{cases_eq, cases_lt, cases_order, cond_both, eq-eqb, le-leb, lt-leb, ne_eqb}
use Rattle.store.specs.Months.{HourOnFile, Month, hours_of, new_hour, new_month, no_month, quarters_of, with_state}
use Rattle.store.specs.Posts.{with_hour, with_readings}
use Rattle.store.specs.declared.month.State.{State}
use Rattle.store.specs.declared.post.Reading.{Reading}

-- a list with one item set, at any place
set_at : {X : Type 0} (xs : List X) (i k : ℕ) (x d : X) → i < length xs → (P : Bool → X → Type 0)
    → (i ≡ k → P true x) → P false (get_or xs k d) → P (i == k) (get_or (set xs i x) k d)
set_at xs i k x d here P own other =
    elim (cases_eq i k) [
      | inl same ↦ rw (eq-eqb i k same, sym same, get_or-set_same xs i x d here) (own same)
      | inr differs ↦ rw (ne_eqb i k differs, get_or-set_other xs i k x d (λ e. differs (sym e))) other
    ]

-- and with several in a row
sets_at : {X : Type 0} (vs : List X) (xs : List (Option X)) (i k : ℕ) → i + length vs ≤ length xs
    → get_or (sets xs i (map Some vs)) k None
    ≡ option_map_or Some (cond (leb i k) (slice_get vs (k - i)) None) (get_or xs k None)
sets_at [] xs i k fits =
    cond_both (leb i k) None None (λ o. get_or xs k None ≡ option_map_or Some o (get_or xs k None)) (λ e. refl) (λ e. refl)
sets_at (v ∷ vs) xs i k fits =
    sets_at vs (set xs i (Some v)) (suc i) k (omega (arith, length-set xs i (Some v)))
    ∙ elim (cases_order i k) [
      | inl same ↦
          let first : k - i ≡ 0 = omega arith in
          rw (lt-leb (suc i) k (omega arith), le-leb i k (omega arith), first, sym same) (get_or-set_same xs i (Some v) None (omega arith))
      | inr (inl after) ↦
          let further : k - i ≡ suc (k - suc i) = omega arith in
          rw (le-leb (suc i) k (omega arith), le-leb i k (omega arith), further)
          (ap (option_map_or Some (slice_get vs (k - suc i))) (get_or-set_other xs i k (Some v) None (λ e. omega arith)))
      | inr (inr before) ↦
          rw (lt-leb (suc i) k (omega arith), lt-leb i k (omega arith)) (get_or-set_other xs i k (Some v) None (λ e. omega arith))
    ]

all_alike : {X : Type 0} (n k : ℕ) (x : X) → get_or (replicate n x) k x ≡ x
all_alike n k x =
    elim (cases_lt k n) [
      | inl here ↦ get_or-replicate n k x x here
      | inr past ↦ get_or_past (replicate n x) k x (omega (arith, length-replicate n x))
    ]

-- what a call says of a quarter, of an hour and of the days of a month
pub record Sayings : Type 0 where
  pub reading : Option Reading
  pub price : Option ℕ
  pub scheduled : Option ℕ
  pub days : Option ℕ

abbrev pub silent : Sayings
silent = record { reading = None; price = None; scheduled = None; days = None }

module _ (quarter hour : ℕ) where
  -- a month that has what was said, and where nothing was, what it had
  pub record Files (said : Sayings) (now was : Month) : Type 0 where
    pub reading : get_or now.readings quarter None ≡ option_map_or Some said.reading (get_or was.readings quarter None)
    pub price : (get_or now.hours hour new_hour).price ≡ option_map_or Some said.price (get_or was.hours hour new_hour).price
    pub scheduled : (get_or now.hours hour new_hour).scheduled ≡ option_map_or (λ kw. kw) said.scheduled (get_or was.hours hour new_hour).scheduled
    pub days : now.days ≡ option_map_or (λ days. days) said.days was.days

  pub files_day : (first : ℕ) (readings : List Reading) (month : Month) → first + length readings ≤ length month.readings
      → Files (record silent { reading = cond (leb first quarter) (slice_get readings (quarter - first)) None }) (with_readings first readings month) month
  files_day first readings month fits = record {
    reading = sets_at readings month.readings first quarter fits;
    price = refl;
    scheduled = refl;
    days = refl;
  }

  pub files_reading : (place : ℕ) (reading : Reading) (month : Month) → place < length month.readings
      → Files (record silent { reading = cond (place == quarter) (Some reading) None }) (with_readings place (reading ∷ []) month) month
  files_reading place reading month here = record {
    reading =
        set_at month.readings place quarter (Some reading) None here
        (λ is now. now ≡ option_map_or Some (cond is (Some reading) None) (get_or month.readings quarter None)) (λ same. refl) refl;
    price = refl;
    scheduled = refl;
    days = refl;
  }

  module _ (place : ℕ) (month : Month) (here : place < length month.hours) where
    hour_at : (alter : HourOnFile → HourOnFile) (P : Bool → HourOnFile → Type 0)
        → P true (alter (get_or month.hours hour new_hour)) → P false (get_or month.hours hour new_hour)
        → P (place == hour) (get_or (with_hour place alter month).hours hour new_hour)
    hour_at alter P own = set_at month.hours place hour _ new_hour here P (λ same. rw same own)

    pub files_price : (price : ℕ) → Files (record silent { price = cond (place == hour) (Some price) None }) (with_hour place (λ old. record old { price = Some price }) month) month
    files_price price =
        let both =
        hour_at (λ old. record old { price = Some price })
        (λ is now. (now.price ≡ option_map_or Some (cond is (Some price) None) (get_or month.hours hour new_hour).price)
        × (now.scheduled ≡ (get_or month.hours hour new_hour).scheduled))
        (refl, refl) (refl, refl)
        in
        record { reading = refl; price = both.0; scheduled = both.1; days = refl }

    pub files_scheduled : (kw : ℕ) → Files (record silent { scheduled = cond (place == hour) (Some kw) None }) (with_hour place (λ old. record old { scheduled = kw }) month) month
    files_scheduled kw =
        let both =
        hour_at (λ old. record old { scheduled = kw })
        (λ is now. (now.price ≡ (get_or month.hours hour new_hour).price)
        × (now.scheduled ≡ option_map_or (λ kw. kw) (cond is (Some kw) None) (get_or month.hours hour new_hour).scheduled))
        (refl, refl) (refl, refl)
        in
        record { reading = refl; price = both.0; scheduled = both.1; days = refl }

  -- nothing is on file in a month that was just started, nor past the last month
  new_reading : (days : ℕ) → get_or (new_month days).readings quarter None ≡ None
  unfolding new_month
  new_reading days = all_alike (quarters_of days) quarter None

  new_month_hour : (days : ℕ) → get_or (new_month days).hours hour new_hour ≡ new_hour
  unfolding new_month
  new_month_hour days = all_alike (hours_of days) hour new_hour

  pub no_reading : get_or no_month.readings quarter None ≡ None
  unfolding no_month
  no_reading = new_reading 0

  pub no_hour : get_or no_month.hours hour new_hour ≡ new_hour
  unfolding no_month
  no_hour = new_month_hour 0

  pub files_new : (days : ℕ) → Files (record silent { days = Some days }) (new_month days) no_month
  unfolding new_month
  files_new days = record {
    reading = new_reading days ∙ sym no_reading;
    price = ap (λ hour. hour.price) (new_month_hour days ∙ sym no_hour);
    scheduled = ap (λ hour. hour.scheduled) (new_month_hour days ∙ sym no_hour);
    days = refl;
  }

  pub files_nothing : (month : Month) → Files silent month month
  files_nothing month = record { reading = refl; price = refl; scheduled = refl; days = refl }

  pub files_state : (state : State) (month : Month) → Files silent (with_state state month) month
  files_state state month = record { reading = refl; price = refl; scheduled = refl; days = refl }

pub no_days : no_month.days ≡ 0
unfolding no_month new_month
no_days = refl
