-- What a book holds after any run: what the accepted posts put there last.
use Rattle.std.proofs.Common.{◌≡◌, ℕ, ◌+◌, ◌-◌, ◌<◌, ◌≤◌, Bool, true, false, ◌&&◌, cond, leb, List, [], length, get_or, is_some, Some, None, Option, sym, refl, ap, ◌∙◌, inl, inr, arith}
use Rattle.std.specs.Prelude.{◌==◌, slice_get, unwrap_or}
use Rattle.std.specs.Option.{option_map_or}
use Rattle.std.proofs.lemmas.List.FromFn.{get_or-map-range_with_len}
use Rattle.std.proofs.lemmas.List.{get_or_past, get_or_push, length_push, length-set}
use Rattle.std.proofs.lemmas.Bool.{cases_eq, and_right, cases_order, eq-eqb, le-leb, lt-leb, ne_eqb}
use Rattle.book.specs.Calls.{Call, Reply, opens, starts, posts, posts_day, bills, finalises}
use Rattle.book.specs.Steps.{reply, view_after, with_month}
use Rattle.book.specs.Table.{refusal_of}
use Rattle.book.specs.Views.{View, is_month, month_at, month_index}
use Rattle.store.specs.Months.{Month, earlier_peaks, new_hour, new_month, no_month, quarters_of, with_state}
use Rattle.store.specs.Posts.{month_with_day, month_with_post, post_places}
use Rattle.store.specs.declared.carried.TheConstants.{RATCHET}
use Rattle.store.specs.declared.month.State.TheVariants.{Billed, Final}
use Rattle.store.specs.declared.post.Post.{Post}
use Rattle.store.specs.declared.post.Post.TheVariants.{Reading as OfReading, Price as OfPrice, Scheduled as OfScheduled}
use Rattle.tariff.specs.Pricing.{Meaning}
use Rattle.audit.specs.Histories.{Saying, last_said}
use Rattle.audit.specs.LastPosts.{HoldsLastPosts, days_started, peaks_carried, point_opened, price_posted, reading_posted, scheduled_posted}
use Rattle.audit.specs.Laws.{Run, book_after, new_book, turns_of}
use Rattle.audit.proofs.Months.{altered_at, pushed_other}
use Rattle.audit.proofs.Places.{Files, Sayings, files_day, files_new, files_nothing, files_price, files_reading, files_scheduled, files_state, no_days, no_hour, no_reading, silent}
use Rattle.audit.proofs.Said.{run_said}
use Rattle.audit.proofs.Sound.{Sound, begun_sound, reached_sound}
use Rattle.audit.proofs.Table.{Names, billing, day_there, finalising, place_there, posting, posting_day}

-- the month that a call names, and the others
named : (v : View) (n : ℕ) (alter : Month → Month) → Names n v → (m : ℕ) → 1 ≤ m → (P : Bool → Month → Type 0)
    → (n ≡ m → P true (alter (month_at m v))) → P false (month_at m v)
    → P (n == m) (month_at m (with_month n alter v))
named v n alter names m low P own other =
    altered_at v.months n alter names.low names.high m low (P (n == m))
    (λ same. rw (eq-eqb n m (sym same), sym same) (own (sym same)))
    (λ differs. rw (ne_eqb n m (λ e. differs (sym e))) other)

-- what an accepted call leaves of a month, at a quarter and an hour
module _ (meaning : Meaning) (m quarter hour : ℕ) (low : 1 ≤ m) where
  abbrev says_of : (call : Call) → Reply call → Sayings
  says_of call reply = record {
    reading = reading_posted m quarter call reply;
    price = price_posted m hour call reply;
    scheduled = scheduled_posted m hour call reply;
    days = days_started m call reply;
  }

  module _ (v : View) (sound : Sound meaning v) where
    abbrev FilesOn : Sayings → Month → Type 0
    FilesOn said now = Files quarter hour said now (month_at m v)

    nothing : FilesOn silent (month_at m v)
    nothing = files_nothing quarter hour (month_at m v)

    -- a post to this month or to another
    posted : (n place : ℕ) (post : Post) → refusal_of meaning (posts n place post) v ≡ None → (says : Bool → Sayings)
        → (place < post_places post (month_at m v).days → FilesOn (says true) (month_with_post place post (month_at m v)))
        → FilesOn (says false) (month_at m v)
        → FilesOn (says (n == m)) (month_at m (view_after meaning (posts n place post) v))
    posted n place post e says own =
        named v n (month_with_post place post) (posting meaning v n place post e).names m low (λ here. FilesOn (says here))
        (λ same. own (rw same at (place_there meaning v n place post e)))

    month_files : (call : Call) → refusal_of meaning call v ≡ None
        → FilesOn (says_of call (reply meaning call v)) (month_at m (view_after meaning call v))
    month_files (starts days) e =
        elim (cases_eq (length v.months + 1) m) [
          | inl same ↦
              rw (
                eq-eqb (length v.months + 1) m same,
                get_or_push v.months (new_month days) no_month (month_index m) (omega arith),
                get_or_past v.months (month_index m) no_month (omega arith),
              )
              (files_new quarter hour days)
          | inr other ↦
              rw (
                ne_eqb (length v.months + 1) m other,
                pushed_other v.months (new_month days) (month_index m) (λ e. other (omega arith)),
              )
              nothing
        ]
    month_files (posts n place (OfReading reading)) e =
        posted n place (OfReading reading) e
        (λ here. record silent { reading = cond (here && place == quarter) (Some reading) None })
        (λ there. files_reading quarter hour place reading (month_at m v) (omega (arith, (sound.shaped m low).0))) nothing
    month_files (posts n place (OfPrice price)) e =
        posted n place (OfPrice price) e
        (λ here. record silent { price = cond (here && place == hour) (Some price) None })
        (λ there. files_price quarter hour place (month_at m v) (omega (arith, (sound.shaped m low).1)) price) nothing
    month_files (posts n place (OfScheduled kw)) e =
        posted n place (OfScheduled kw) e
        (λ here. record silent { scheduled = cond (here && place == hour) (Some kw) None })
        (λ there. files_scheduled quarter hour place (month_at m v) (omega (arith, (sound.shaped m low).1)) kw) nothing
    month_files (posts_day n day code readings) e =
        let first = quarters_of day in
        named v n (month_with_day day readings) (posting_day meaning v n day code readings e).names m low
        (λ here. FilesOn (record silent { reading = cond (here && leb first quarter) (slice_get readings (quarter - first)) None }))
        (λ same.
        let there = rw same at (day_there meaning v n day code readings e) in
        files_day quarter hour first readings (month_at m v) (omega (arith, (sound.shaped m low).0)))
        nothing
    month_files (bills n) e =
        named v n (with_state Billed) (billing meaning v n e).names m low (λ here. FilesOn silent) (λ same. files_state quarter hour Billed (month_at m v)) nothing
    month_files (finalises n) e =
        named v n (with_state Final) (finalising meaning v n e).names m low (λ here. FilesOn silent) (λ same. files_state quarter hour Final (month_at m v)) nothing
    month_files _ e = nothing

-- and of the rest
point_after : (meaning : Meaning) (call : Call) (v : View)
    → (view_after meaning call v).point ≡ option_map_or Some (point_opened call (reply meaning call v)) v.point
point_after meaning (opens code contract substation carried) v = refl
point_after meaning _ v = refl

earlier_peak : (carried : List ℕ) (i : ℕ) → i < RATCHET
    → get_or (earlier_peaks carried) (RATCHET - 1 - i) 0 ≡ get_or carried i 0
unfolding earlier_peaks
earlier_peak carried i here =
    let back : RATCHET - 1 - (RATCHET - 1 - i) ≡ i = omega arith in
    get_or-map-range_with_len (λ i. get_or carried (RATCHET - 1 - i) 0) 0 RATCHET (RATCHET - 1 - i) (RATCHET - 1 - i) 0 (omega arith) (omega arith)
    ∙ ap (λ k. get_or carried k 0) back

carried_after : (meaning : Meaning) (i : ℕ) → i < RATCHET → (call : Call) (v : View)
    → get_or (view_after meaning call v).before (RATCHET - 1 - i) 0
    ≡ option_map_or (λ carried. get_or carried i 0) (peaks_carried call (reply meaning call v)) (get_or v.before (RATCHET - 1 - i) 0)
carried_after meaning i here (opens code contract substation carried) v = earlier_peak carried i here
carried_after meaning i here _ v = refl

one_more : (m months : ℕ) (days : ℕ) → 1 ≤ m
    → (leb 1 m && leb m (months + 1)) ≡ option_map_or (λ days. true) (cond (months + 1 == m) (Some days) None) (leb 1 m && leb m months)
one_more m months days low =
    elim (cases_order (months + 1) m) [
      | inl same ↦ rw (eq-eqb (months + 1) m same, le-leb 1 m low, le-leb m (months + 1) (omega arith)) refl
      | inr (inl past) ↦
          rw (ne_eqb (months + 1) m (λ e. omega arith), lt-leb m (months + 1) (omega arith), lt-leb m months (omega arith)) refl
      | inr (inr before) ↦
          rw (ne_eqb (months + 1) m (λ e. omega arith), le-leb m (months + 1) (omega arith), le-leb m months (omega arith)) refl
    ]

started_after : (meaning : Meaning) (m : ℕ) → 1 ≤ m → (call : Call) (v : View)
    → is_month m (view_after meaning call v) ≡ option_map_or (λ days. true) (days_started m call (reply meaning call v)) (is_month m v)
started_after meaning m low (starts days) v =
    ap (λ n. leb 1 m && leb m n) (length_push v.months (new_month days)) ∙ one_more m (length v.months) days low
started_after meaning m low (posts n place post) v = ap (λ n. leb 1 m && leb m n) (length-set v.months _ _)
started_after meaning m low (posts_day n day code readings) v = ap (λ n. leb 1 m && leb m n) (length-set v.months _ _)
started_after meaning m low (bills n) v = ap (λ n. leb 1 m && leb m n) (length-set v.months _ _)
started_after meaning m low (finalises n) v = ap (λ n. leb 1 m && leb m n) (length-set v.months _ _)
started_after meaning m low _ v = refl

-- what was said of a thing that a new book has none of
said_some : {X : Type 0} (said : Option X) → option_map_or Some said None ≡ said
said_some None = refl
said_some (Some x) = refl

said_number : (said : Option ℕ) → option_map_or (λ n. n) said 0 ≡ unwrap_or said 0
said_number None = refl
said_number (Some n) = refl

said_yes : {X : Type 0} (said : Option X) → option_map_or (λ x. true) said false ≡ is_some said
said_yes None = refl
said_yes (Some x) = refl

said_peak : (i : ℕ) (said : Option (List ℕ))
    → option_map_or (λ carried. get_or carried i 0) said 0 ≡ get_or (unwrap_or said []) i 0
said_peak i None = refl
said_peak i (Some carried) = refl

none_below : (m : ℕ) → 1 ≤ m → (leb 1 m && leb m 0) ≡ false
none_below m low = and_right (leb 1 m) (leb m 0) (lt-leb m 0 low)

module _ (meaning : Meaning) (run : Run) where
  -- what was said last, or else what a new book has
  held : {X Y : Type 0} (says : Saying X) (f : X → Y) (look : View → Y)
      → ((call : Call) (v : View) → Sound meaning v → refusal_of meaning call v ≡ None
      → look (view_after meaning call v) ≡ option_map_or f (says call (reply meaning call v)) (look v))
      → (new : Y) → look (new_book run) ≡ new
      → {stands : Option X → Y} → ((said : Option X) → option_map_or f said new ≡ stands said)
      → look (book_after meaning run) ≡ stands (last_said says (turns_of meaning run))
  held says f look once new blank stands =
      let said = last_said says (turns_of meaning run) in
      run_said meaning says f look once run.calls (new_book run) (begun_sound meaning run) ∙ ap (option_map_or f said) blank ∙ stands said

  pub on_file : HoldsLastPosts (turns_of meaning run) (book_after meaning run)
  on_file = record {
    point = held point_opened Some (λ v. v.point) (λ call v sound e. point_after meaning call v) None refl said_some;
    before = (reached_sound meaning run).counted;
    carried = λ i here.
        held peaks_carried (λ carried. get_or carried i 0) (λ v. get_or v.before (RATCHET - 1 - i) 0) (λ call v sound e. carried_after meaning i here call v) 0 (earlier_peak [] i here) (said_peak i);
    started = λ m low.
        held (days_started m) (λ days. true) (is_month m) (λ call v sound e. started_after meaning m low call v) false (none_below m low) said_yes;
    days = λ m low.
        held (days_started m) (λ days. days) (λ v. (month_at m v).days) (λ call v sound e. (month_files meaning m 0 0 low v sound call e).days) 0 no_days said_number;
    quarters = λ m low. ((reached_sound meaning run).shaped m low).0;
    hours = λ m low. ((reached_sound meaning run).shaped m low).1;
    readings = λ m quarter low.
        held (reading_posted m quarter) Some (λ v. get_or (month_at m v).readings quarter None) (λ call v sound e. (month_files meaning m quarter 0 low v sound call e).reading) None (no_reading quarter 0) said_some;
    prices = λ m hour low.
        held (price_posted m hour) Some (λ v. (get_or (month_at m v).hours hour new_hour).price) (λ call v sound e. (month_files meaning m 0 hour low v sound call e).price) None (ap (λ hour. hour.price) (no_hour 0 hour)) said_some;
    scheduled = λ m hour low.
        held (scheduled_posted m hour) (λ kw. kw) (λ v. (get_or (month_at m v).hours hour new_hour).scheduled) (λ call v sound e. (month_files meaning m 0 hour low v sound call e).scheduled) 0 (ap (λ hour. hour.scheduled) (no_hour 0 hour)) said_number;
  }
