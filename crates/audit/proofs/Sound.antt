-- What holds of every book: kept by each call, and true of a new book.
use Rattle.std.proofs.Common.{◌≡◌, ℕ, ◌+◌, ◌-◌, ◌<◌, ◌≤◌, Bool, true, false, ◌≢◌, List, [], ◌∷◌, ◌++◌, map, length, get_or, take, ℤ, pos, is_some, Some, None, Option, sym, refl, ap, ◌∙◌, inl, inr, arith}
use Rattle.std.proofs.lemmas.List.FromFn.{length-map-range_with_len}
use Rattle.std.proofs.lemmas.List.{ext_get_or, get_or_past, get_or_push, take-append-le, take-map, take-set-le}
use Rattle.std.proofs.lemmas.Int.{ints}
use Rattle.std.proofs.lemmas.Bool.{both_ways, cases_eq, cases_order}
use Rattle.book.specs.Calls.{Call, opens, starts, posts, posts_day, bills, trues_up, finalises, asks}
use Rattle.store.specs.Posts.{month_with_day, month_with_post}
use Rattle.book.specs.Steps.{view_after, with_month, step}
use Rattle.book.specs.Table.{bill_entries, is_fault, refusal_of, true_up_entries}
use Rattle.book.specs.Views.{View, altered_line, month_has_reached, month_at, month_index, month_outcome}
use Rattle.ledger.specs.Entries.{entries_for, line_sum, sums}
use Rattle.ledger.specs.declared.entry.Entry.{Entry}
use Rattle.ledger.specs.declared.entry.EntryKind.{EntryKind}
use Rattle.ledger.proofs.Sums.{entries_other_month, get_or_sums, length_sums, line_sum_append, line_sum_none}
use Rattle.store.specs.Months.{Month, earlier_peaks, new_month, no_month, peak, has_reached, with_state}
use Rattle.store.specs.declared.carried.TheConstants.{RATCHET}
use Rattle.store.specs.declared.month.State.TheVariants.{Billed, Final}
use Rattle.tariff.specs.Limits.{line_count}
use Rattle.tariff.specs.Pricing.{Meaning}
use Rattle.audit.specs.Laws.{Run, book_after, new_book}
use Rattle.audit.specs.Runs.{view_after_calls}
use Rattle.audit.proofs.Files.{Spared, spared_altered, spared_priced}
use Rattle.audit.proofs.Months.{Shaped, altered_here, altered_other, billed_there, final_billed, new_month_shaped, no_month_open, no_month_shaped, none_short, Fills, post_fills, day_fills, pushed_other, pushed_state, unbilled_unsettled}
use Rattle.audit.proofs.Table.{billing, by_step, finalising, Posting, opening, posting, posting_day, starting, truing}

-- a month that was made final: so are all before it, it can be priced, and pricing it alters nothing
pub record Settled (meaning : Meaning) (v : View) (m : ℕ) : Type 0 where
  pub earlier : (n : ℕ) → 1 ≤ n → n < m → month_has_reached Final n v ≡ true
  pub prices : is_fault (month_outcome meaning v m) ≡ false
  pub current : altered_line meaning v m ≡ None

pub record Sound (meaning : Meaning) (v : View) : Type 0 where
  pub counted : length v.before ≡ RATCHET
  -- a blank book has no months
  pub empty : is_some v.point ≡ false → v.months ≡ []
  pub shaped : (m : ℕ) → 1 ≤ m → Shaped (month_at m v)
  -- past the last month too
  pub unbilled : (m l : ℕ) → 1 ≤ m → month_has_reached Billed m v ≡ false → line_sum v.ledger m l ≡ pos 0
  pub settled : (m : ℕ) → 1 ≤ m → month_has_reached Final m v ≡ true → Settled meaning v m

-- what a call leaves: a sound book, whose final months are as they were
pub record Kept (meaning : Meaning) (v w : View) : Type 0 where
  pub sound : Sound meaning w
  pub final : (m : ℕ) → 1 ≤ m → month_has_reached Final m v ≡ true
      → (month_has_reached Final m w ≡ true) × ((l : ℕ) → line_sum w.ledger m l ≡ line_sum v.ledger m l)

absurd : {X : Type 0} (b : Bool) → b ≡ false → b ≡ true → X
absurd b short done = elim (both_ways b short done) [ ]

pub sums_from : (one two : List Entry) (m : ℕ) → ((l : ℕ) → line_sum one m l ≡ line_sum two m l)
    → sums one m ≡ sums two m
sums_from one two m same =
    ext_get_or (pos 0) (sums one m) (sums two m) (length_sums one m ∙ sym (length_sums two m))
    (λ i here.
    let few : i < line_count = omega (arith, length_sums one m) in
    get_or_sums one m i few ∙ same (i + 1) ∙ sym (get_or_sums two m i few))

pub written_elsewhere : (kind : EntryKind) (ledger : List Entry) (m : ℕ) (cents : List ℤ) (n l : ℕ) → n ≢ m
    → line_sum (ledger ++ entries_for kind m cents) n l ≡ line_sum ledger n l
written_elsewhere kind ledger m cents n l other =
    let both = line_sum_append ledger (entries_for kind m cents) n l in
    let none = entries_other_month kind m 1 cents n l other in
    omega (arith, ints)

settled_still : (meaning : Meaning) (v w : View) (m : ℕ) → length v.before ≡ RATCHET → Spared v m w
    → ((l : ℕ) → line_sum w.ledger m l ≡ line_sum v.ledger m l)
    → ((n : ℕ) → 1 ≤ n → n < m → month_has_reached Final n v ≡ true → month_has_reached Final n w ≡ true)
    → Settled meaning v m → Settled meaning w m
settled_still meaning v w m counted spared same before settled = record {
  earlier = λ n low here. before n low here (settled.earlier n low here);
  prices = ap is_fault (sym (spared_priced v m w counted spared meaning)) ∙ settled.prices;
  current =
      sym (spared_altered v m w counted spared meaning (sums_from v.ledger w.ledger m (λ l. sym (same l)))) ∙ settled.current;
}

-- one month is touched, and no other
record Touches (m : ℕ) (v w : View) : Type 0 where
  point : v.point ≡ w.point
  before : v.before ≡ w.before
  earlier : (k : ℕ) → k < m → take k v.months ≡ take k w.months
  others : (n : ℕ) → 1 ≤ n → n ≢ m → month_at n w ≡ month_at n v
  sums : (n l : ℕ) → n ≢ m → line_sum w.ledger n l ≡ line_sum v.ledger n l

module _ (v : View) (m : ℕ) (low : 1 ≤ m) (ledger : List Entry)
    (same : (n l : ℕ) → n ≢ m → line_sum ledger n l ≡ line_sum v.ledger n l) where
  touches_month : (alter : Month → Month) → Touches m v (with_month m alter (record v { ledger = ledger }))
  touches_month alter = record {
    point = refl;
    before = refl;
    earlier = λ k here. sym (take-set-le k v.months (month_index m) (alter (month_at m v)) (omega arith));
    others = altered_other v.months m alter low;
    sums = same;
  }

  touches_ledger : Touches m v (record v { ledger = ledger })
  touches_ledger = record { point = refl; before = refl; earlier = λ k here. refl; others = λ n some other. refl; sums = same }

peaks_from : (v w : View) (k : ℕ) → take k v.months ≡ take k w.months
    → take k (map peak v.months) ≡ take k (map peak w.months)
peaks_from v w k e = take-map peak k v.months ∙ ap (map peak) e ∙ sym (take-map peak k w.months)

module _ (meaning : Meaning) (v : View) (sound : Sound meaning v) (opened : is_some v.point ≡ true) (m : ℕ)
    (low : 1 ≤ m) (unsettled : month_has_reached Final m v ≡ false) (w : View) (touches : Touches m v w) where
  final_other : (n : ℕ) → month_has_reached Final n v ≡ true → n ≢ m
  final_other n final same = absurd (month_has_reached Final m v) unsettled (rw same at final)

  others_final : (n : ℕ) → 1 ≤ n → n ≢ m → month_has_reached Final n v ≡ month_has_reached Final n w
  others_final n some other = ap (λ month. has_reached Final month.state) (sym (touches.others n some other))

  -- it comes before the month that is touched
  others_settled : (n : ℕ) → 1 ≤ n → n ≢ m → month_has_reached Final n w ≡ true → Settled meaning w n
  others_settled n some other final =
      let settled = sound.settled n some (others_final n some other ∙ final) in
      let before : n < m =
      elim (cases_order n m) [
        | inl same ↦ elim (other same) [ ]
        | inr (inl earlier) ↦ earlier
        | inr (inr later) ↦ absurd (month_has_reached Final m v) unsettled (settled.earlier m low later)
      ]
      in
      let month = sym (touches.others n some other) in
      settled_still meaning v w n sound.counted
      (record {
        point = touches.point;
        before = touches.before;
        peaks = peaks_from v w (month_index n) (touches.earlier (month_index n) (omega arith));
        days = ap (λ month. month.days) month;
        readings = ap (λ month. month.readings) month;
        hours = ap (λ month. month.hours) month;
      })
      (λ l. touches.sums n l other)
      (λ k one here done. sym (others_final k one (λ e. omega arith)) ∙ done)
      settled

  touched : Shaped (month_at m w)
      → ((l : ℕ) → month_has_reached Billed m w ≡ false → line_sum w.ledger m l ≡ pos 0)
      → (month_has_reached Final m w ≡ true → Settled meaning w m) → Kept meaning v w
  touched shaped unbilled settled = record {
    sound = record {
      counted = ap length (sym touches.before) ∙ sound.counted;
      empty = λ blank. absurd (is_some v.point) (ap is_some touches.point ∙ blank) opened;
      shaped = λ n some.
          elim (cases_eq n m) [
            | inl same ↦ rw same shaped
            | inr other ↦ rw (touches.others n some other) (sound.shaped n some)
          ];
      unbilled = λ n l some short.
          elim (cases_eq n m) [
            | inl same ↦ rw same (unbilled l (rw same at short))
            | inr other ↦
                touches.sums n l other ∙ sound.unbilled n l some (ap (λ month. has_reached Billed month.state) (sym (touches.others n some other)) ∙ short)
          ];
      settled = λ n some final.
          elim (cases_eq n m) [
            | inl same ↦ rw same (settled (rw same at final))
            | inr other ↦ others_settled n some other final
          ];
    };
    final = λ n some final.
        let other = final_other n final in
        (sym (others_final n some other) ∙ final, λ l. touches.sums n l other);
  }

unmoved : (meaning : Meaning) (v : View) → Sound meaning v → Kept meaning v v
unmoved meaning v sound = record { sound = sound; final = λ m low final. (final, λ l. refl) }

length_earlier_peaks : (carried : List ℕ) → length (earlier_peaks carried) ≡ RATCHET
unfolding earlier_peaks
length_earlier_peaks carried = length-map-range_with_len (λ i. get_or carried (RATCHET - 1 - i) 0) 0 RATCHET

none_final : (v : View) (m : ℕ) → 1 ≤ m → v.months ≡ [] → month_has_reached Final m v ≡ true → ⊥
none_final v m low none final = omega (arith, billed_there v m low (final_billed (month_at m v).state final), ap length none)

opened_kept : (meaning : Meaning) (v : View) → Sound meaning v
    → (code : List ℕ) (contract substation : ℕ) (carried : List ℕ) → v.months ≡ []
    → Kept meaning v (view_after meaning (opens code contract substation carried) v)
opened_kept meaning v sound code contract substation carried none = record {
  sound = record {
    counted = length_earlier_peaks carried;
    empty = λ blank. none;
    shaped = sound.shaped;
    unbilled = sound.unbilled;
    settled = λ m low final. elim (none_final v m low none final) [ ];
  };
  final = λ m low final. (final, λ l. refl);
}

-- a month that is started touches its place alone
started_kept : (meaning : Meaning) (v : View) → Sound meaning v → is_some v.point ≡ true → (days m : ℕ)
    → 1 ≤ m → month_index m ≡ length v.months → Kept meaning v (view_after meaning (starts days) v)
started_kept meaning v sound opened days m low new =
    let was = ap (λ month. month.state) (get_or_past v.months (month_index m) no_month (omega arith)) ∙ no_month_open in
    let state = pushed_state v.months days (month_index m) ∙ was in
    touched meaning v sound opened m low (ap (has_reached Final) was) (view_after meaning (starts days) v)
    (record {
      point = refl;
      before = refl;
      earlier = λ k here. sym (take-append-le k v.months (new_month days ∷ []) (omega arith));
      others = λ n some other. pushed_other v.months (new_month days) (month_index n) (λ e. other (omega arith));
      sums = λ n l other. refl;
    })
    (rw (get_or_push v.months (new_month days) no_month (month_index m) (sym new)) (new_month_shaped days))
    (λ l short. sound.unbilled m l low (ap (has_reached Billed) was))
    (λ final. absurd (month_has_reached Final m (view_after meaning (starts days) v)) (ap (has_reached Final) state) final)

posted_kept : (meaning : Meaning) (v : View) → Sound meaning v → (m : ℕ) → Posting meaning v m
    → (alter : Month → Month) → Fills alter → Kept meaning v (with_month m alter v)
posted_kept meaning v sound m h alter fills =
    let low : 1 ≤ m = h.names.low in
    let month = altered_here v.months m alter low h.names.high in
    let state = ap (λ month. month.state) month ∙ fills.state (month_at m v) in
    touched meaning v sound h.names.opened m low h.unsettled (with_month m alter v)
    (touches_month v m low v.ledger (λ n l other. refl) alter)
    (rw month (fills.shaped (month_at m v) (sound.shaped m low)))
    (λ l short. sound.unbilled m l low (sym (ap (has_reached Billed) state) ∙ short))
    (λ final. absurd (month_has_reached Final m v) h.unsettled (sym (ap (has_reached Final) state) ∙ final))

pub none_some : {X : Type 0} (o : Option X) → is_some o ≡ false → o ≡ None
none_some None e = refl
none_some (Some x) e = cc

pub kept_after : (meaning : Meaning) (call : Call) (v : View) → Sound meaning v
    → refusal_of meaning call v ≡ None → Kept meaning v (view_after meaning call v)
kept_after meaning (opens code contract substation carried) v sound e =
    opened_kept meaning v sound code contract substation carried (sound.empty (opening meaning v code contract substation carried e))
kept_after meaning (starts days) v sound e = started_kept meaning v sound (starting meaning v days e) days (length v.months + 1) (omega arith) (omega arith)
kept_after meaning (posts m place post) v sound e = posted_kept meaning v sound m (posting meaning v m place post e) (month_with_post place post) (post_fills place post)
kept_after meaning (posts_day m day code readings) v sound e =
    posted_kept meaning v sound m (posting_day meaning v m day code readings e) (month_with_day day readings) (day_fills day readings)
kept_after meaning (bills m) v sound e =
    let h = billing meaning v m e in
    let low : 1 ≤ m = h.names.low in
    let month = altered_here v.months m (with_state Billed) low h.names.high in
    let state = ap (λ month. month.state) month in
    touched meaning v sound h.names.opened m low (unbilled_unsettled (month_at m v).state h.unbilled) (view_after meaning (bills m) v)
    (touches_month v m low (v.ledger ++ bill_entries meaning v m) (written_elsewhere _ v.ledger m _) (with_state Billed))
    (rw month (sound.shaped m low))
    (λ l short. absurd (has_reached Billed Billed) (sym (ap (has_reached Billed) state) ∙ short) refl)
    (λ final. absurd (has_reached Final Billed) refl (sym (ap (has_reached Final) state) ∙ final))
kept_after meaning (trues_up m) v sound e =
    let h = truing meaning v m e in
    let low : 1 ≤ m = h.names.low in
    touched meaning v sound h.names.opened m low h.unsettled (view_after meaning (trues_up m) v)
    (touches_ledger v m low (v.ledger ++ true_up_entries meaning v m) (written_elsewhere _ v.ledger m _))
    (sound.shaped m low)
    (λ l short. absurd (month_has_reached Billed m v) short h.billed)
    (λ final. absurd (month_has_reached Final m v) h.unsettled final)
kept_after meaning (finalises m) v sound e =
    let h = finalising meaning v m e in
    let low : 1 ≤ m = h.names.low in
    let w = view_after meaning (finalises m) v in
    let month = altered_here v.months m (with_state Final) low h.names.high in
    let state = ap (λ month. month.state) month in
    let touches = touches_month v m low v.ledger (λ n l other. refl) (with_state Final) in
    let spared : Spared v m w = record {
      point = refl;
      before = refl;
      peaks = peaks_from v w (month_index m) (touches.earlier (month_index m) (omega arith));
      days = sym (ap (λ month. month.days) month);
      readings = sym (ap (λ month. month.readings) month);
      hours = sym (ap (λ month. month.hours) month);
    } in
    touched meaning v sound h.names.opened m low h.unsettled w touches
    (rw month (sound.shaped m low))
    (λ l short. absurd (has_reached Billed Final) (sym (ap (has_reached Billed) state) ∙ short) refl)
    (λ final. record {
      earlier = λ n some here. ap (λ month. has_reached Final month.state) (touches.others n some (λ e. omega arith)) ∙ none_short Final v m n h.earlier some here;
      prices = ap is_fault (sym (spared_priced v m w sound.counted spared meaning)) ∙ h.prices;
      current = sym (spared_altered v m w sound.counted spared meaning refl) ∙ none_some (altered_line meaning v m) h.current;
    })
kept_after meaning (asks question) v sound e = unmoved meaning v sound

pub kept : (meaning : Meaning) (call : Call) (v : View) → Sound meaning v
    → Kept meaning v (step meaning call v)
kept meaning call v sound =
    by_step meaning call v (λ w taken. Kept meaning v w) (unmoved meaning v sound) (kept_after meaning call v sound)

-- over a run
pub runs_kept : (meaning : Meaning) (calls : List Call) (v : View) → Sound meaning v
    → Kept meaning v (view_after_calls meaning calls v)
runs_kept meaning [] v sound = unmoved meaning v sound
runs_kept meaning (call ∷ calls) v sound =
    let once = kept meaning call v sound in
    let rest = runs_kept meaning calls (step meaning call v) once.sound in
    record {
      sound = rest.sound;
      final = λ m low final.
          let one = once.final m low final in
          let all = rest.final m low one.0 in
          (all.0, λ l. all.1 l ∙ one.1 l);
    }

pub begun_sound : (meaning : Meaning) (run : Run) → Sound meaning (new_book run)
begun_sound meaning run = record {
  counted = length_earlier_peaks [];
  empty = λ blank. refl;
  shaped = λ m low. no_month_shaped;
  unbilled = λ m l low short. line_sum_none m l;
  settled = λ m low final. elim (none_final (new_book run) m low refl final) [ ];
}

pub reached_sound : (meaning : Meaning) (run : Run) → Sound meaning (book_after meaning run)
reached_sound meaning run = (runs_kept meaning run.calls (new_book run) (begun_sound meaning run)).sound
