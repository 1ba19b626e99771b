-- How far the months come over a run: by the accepted calls alone, in their order, and never back.
use Rattle.std.proofs.Common.{◌≡◌, ℕ, ◌+◌, ◌-◌, ◌<◌, ◌≤◌, Bool, true, false, leb, ◌≢◌, ◌⊎◌, List, [], ◌∷◌, length, is_ok, is_err, is_some, IsErr, Some, None, Ok, Option, sym, refl, ap, ◌∙◌, inl, inr, arith}
use Rattle.std.proofs.lemmas.Bool.{and_from, both_ways, le-leb}
use Rattle.book.specs.Calls.{Call, opens, starts, posts, posts_day, bills, trues_up, finalises, asks}
use Rattle.book.specs.Steps.{answer, reply, reply_unless, step, view_after, with_month}
use Rattle.book.specs.Table.{refusal_of}
use Rattle.book.specs.Views.{View, month_has_reached, is_month, month_at}
use Rattle.store.specs.Months.{Month, has_reached, with_state}
use Rattle.store.specs.Posts.{month_with_day, month_with_post}
use Rattle.store.specs.declared.month.State.{State}
use Rattle.store.specs.declared.month.State.TheVariants.{Open, Billed, Final}
use Rattle.tariff.specs.Pricing.{Meaning}
use Rattle.tariff.specs.declared.refusal.Refusal.{Refusal}
use Rattle.audit.specs.Histories.{HasAccepted, history}
use Rattle.audit.specs.Laws.{Run, TakesOnce, book_after, new_book, turns_of}
use Rattle.audit.specs.Runs.{view_after_calls}
use Rattle.audit.specs.States.{HasStates, IsBilled, IsFinal, month_changed}
use Rattle.audit.proofs.Months.{Fills, altered_at, billed_there, day_fills, final_billed, no_month_open, none_short, post_fills, pushed_state}
use Rattle.audit.proofs.Sound.{reached_sound}
use Rattle.audit.proofs.Table.{Names, billing, by_answer, finalising, month_there, opening, posting, posting_day, truing}

-- the call that takes a month to a state, and the month that a call takes further, 0 where it takes none
abbrev takes_to : State → ℕ → Call
takes_to Final m = finalises m
takes_to _ m = bills m

abbrev month_taken : Call → ℕ
month_taken (bills m) = m
month_taken (finalises m) = m
month_taken _ = 0

takes_month : (state : State) (m : ℕ) → month_taken (takes_to state m) ≡ m
takes_month Open m = refl
takes_month Billed m = refl
takes_month Final m = refl

-- a month goes no way back, and on to a state by its call alone
record Moves (state : State) (m : ℕ) (call : Call) (accepted : Bool) (was now : State) : Type 0 where
  stays : has_reached state was ≡ true → has_reached state now ≡ true
  made : call ≡ takes_to state m → accepted ≡ true → has_reached state now ≡ true
  only : has_reached state now ≡ true
      → (has_reached state was ≡ true) ⊎ ((call ≡ takes_to state m) × (accepted ≡ true))

rests : (state : State) (m : ℕ) (call : Call) (accepted : Bool) (was now : State) → now ≡ was
    → month_taken call ≢ m → Moves state m call accepted was now
rests state m call accepted was now same other = record {
  stays = λ h. rw same h;
  made = λ is taken. elim (other (ap month_taken is ∙ takes_month state m)) [ ];
  only = λ h. inl (rw same at h);
}

refused : (state : State) (m : ℕ) (call : Call) (was : State) → Moves state m call false was was
refused state m call was = record { stays = λ h. h; made = λ is never. cc; only = λ h. inl h }

billed_on : (state : State) (m : ℕ) (was : State) → has_reached Billed was ≡ false
    → Moves state m (bills m) true was Billed
billed_on Open m was short = record { stays = λ h. refl; made = λ is taken. refl; only = λ h. inl refl }
billed_on Billed m was short = record { stays = λ h. refl; made = λ is taken. refl; only = λ h. inr (refl, refl) }
billed_on Final m was short = record {
  stays = λ h. elim (both_ways (has_reached Billed was) short (final_billed was h)) [ ];
  made = λ is taken. cc;
  only = λ h. cc;
}

final_on : (state : State) (m : ℕ) (was : State) → has_reached Billed was ≡ true
    → Moves state m (finalises m) true was Final
final_on Open m was billed = record { stays = λ h. refl; made = λ is taken. refl; only = λ h. inl refl }
final_on Billed m was billed = record { stays = λ h. refl; made = λ is taken. refl; only = λ h. inl billed }
final_on Final m was billed = record { stays = λ h. refl; made = λ is taken. refl; only = λ h. inr (refl, refl) }

module _ (meaning : Meaning) (state : State) (m : ℕ) (low : 1 ≤ m) where
  abbrev MovesTo : Call → Bool → View → View → Type 0
  MovesTo call accepted v w = Moves state m call accepted (month_at m v).state (month_at m w).state

  -- a month is altered
  altered_moves : (v : View) (call : Call) (n : ℕ) → Names n v → (alter : Month → Month)
      → (n ≢ m → month_taken call ≢ m)
      → Moves state n call true (month_at n v).state (alter (month_at n v)).state
      → MovesTo call true v (with_month n alter v)
  altered_moves v call n names alter named here =
      altered_at v.months n alter names.low names.high m low (λ month. Moves state m call true (month_at m v).state month.state)
      (λ same. rw same here)
      (λ other. rests state m call true (month_at m v).state (month_at m v).state refl (named (λ e. other (sym e))))

  posted : (v : View) (call : Call) (n : ℕ) → Names n v → (alter : Month → Month) → Fills alter
      → month_taken call ≡ 0 → MovesTo call true v (with_month n alter v)
  posted v call n names alter fills none =
      altered_moves v call n names alter (λ other e. omega (arith, none, e))
      (rests state n call true _ _ (fills.state (month_at n v)) (λ e. omega (arith, none, e, names.low)))

  moves_after : (call : Call) (v : View) → refusal_of meaning call v ≡ None
      → MovesTo call true v (view_after meaning call v)
  moves_after (opens code contract substation carried) v e = rests state m _ true _ _ refl (λ e. omega arith)
  moves_after (starts days) v e = rests state m _ true _ _ (pushed_state v.months days (m - 1)) (λ e. omega arith)
  moves_after (posts n place post) v e = posted v _ n (posting meaning v n place post e).names (month_with_post place post) (post_fills place post) refl
  moves_after (posts_day n day code readings) v e = posted v _ n (posting_day meaning v n day code readings e).names (month_with_day day readings) (day_fills day readings) refl
  moves_after (bills n) v e =
      let h = billing meaning v n e in
      altered_moves v (bills n) n h.names (with_state Billed) (λ other. other)
      (billed_on state n (month_at n v).state h.unbilled)
  moves_after (trues_up n) v e = rests state m _ true _ _ refl (λ e. omega arith)
  moves_after (finalises n) v e =
      let h = finalising meaning v n e in
      altered_moves v (finalises n) n h.names (with_state Final) (λ other. other)
      (final_on state n (month_at n v).state h.billed)
  moves_after (asks question) v e = rests state m _ true _ _ refl (λ e. omega arith)

  moves : (call : Call) (v : View) → MovesTo call (is_ok (answer meaning call v)) v (step meaning call v)
  moves call v =
      by_answer meaning call v (λ w answered. MovesTo call (is_ok answered) v w)
      (λ refusal. refused state m call (month_at m v).state)
      (moves_after call v)

  -- over a run
  pub run_stays : (calls : List Call) (v : View) → month_has_reached state m v ≡ true
      → month_has_reached state m (view_after_calls meaning calls v) ≡ true
  run_stays [] v h = h
  run_stays (call ∷ calls) v h = run_stays calls (step meaning call v) ((moves call v).stays h)

  run_made : (calls : List Call) (v : View) → HasAccepted (takes_to state m) (history meaning calls v)
      → month_has_reached state m (view_after_calls meaning calls v) ≡ true
  run_made [] v never = elim never [ ]
  run_made (call ∷ calls) v (inl now) = run_stays calls (step meaning call v) ((moves call v).made now.0 now.1)
  run_made (call ∷ calls) v (inr later) = run_made calls (step meaning call v) later

  run_only : (calls : List Call) (v : View)
      → month_has_reached state m (view_after_calls meaning calls v) ≡ true
      → (month_has_reached state m v ≡ true) ⊎ HasAccepted (takes_to state m) (history meaning calls v)
  run_only [] v h = inl h
  run_only (call ∷ calls) v h =
      elim (run_only calls (step meaning call v) h) [
        | inl reached ↦ elim ((moves call v).only reached) [ inl before ↦ inl before | inr now ↦ inr (inl now) ]
        | inr later ↦ inr (inr later)
      ]

-- a call that was not refused, and one that is
pub accepted : {X : Type 0} (refusal : Option Refusal) (x : X) → is_ok (reply_unless refusal x) ≡ true → refusal ≡ None
accepted None x e = refl
accepted (Some refusal) x e = cc

denied : {X : Type 0} (refusal : Option Refusal) (x : X) → (refusal ≡ None → ⊥) → is_err (reply_unless refusal x) ≡ true
denied None x never = elim (never refl) [ ]
denied (Some refusal) x never = refl

module _ (meaning : Meaning) where
  -- the months before a billed one are billed too
  abbrev InOrder : View → Type 0
  InOrder v = (m n : ℕ) → 1 ≤ n → n < m → month_has_reached Billed m v ≡ true → month_has_reached Billed n v ≡ true

  step_in_order : (call : Call) (v : View) → InOrder v → InOrder (step meaning call v)
  step_in_order call v ordered m n low before reached =
      (moves meaning Billed n low call v).stays
      (elim ((moves meaning Billed m (omega arith) call v).only reached) [
        | inl was ↦ ordered m n low before was
        | inr now ↦
            let ok = sym (ap (λ c. is_ok (answer meaning c v)) now.0) ∙ now.1 in
            let e = accepted (refusal_of meaning (bills m) v) (reply meaning (bills m) v) ok in
            none_short Billed v m n (billing meaning v m e).earlier low before
      ])

  run_in_order : (calls : List Call) (v : View) → InOrder v → InOrder (view_after_calls meaning calls v)
  run_in_order [] v ordered = ordered
  run_in_order (call ∷ calls) v ordered = run_in_order calls (step meaning call v) (step_in_order call v ordered)

replied : {X : Type 0} (refusal : Option Refusal) (x y : X) → reply_unless refusal x ≡ Ok y → y ≡ x
replied None x y e = cc
replied (Some refusal) x y e = cc

-- what a book takes no more
module _ (meaning : Meaning) (v : View) where
  not_taken : (call : Call) → (refusal_of meaning call v ≡ None → ⊥) → IsErr (answer meaning call v)
  not_taken call = denied (refusal_of meaning call v) (reply meaning call v)

  unchanged : (call : Call) → IsFinal (month_changed call) v → refusal_of meaning call v ≡ None → ⊥
  unchanged (posts m place post) final e = both_ways (month_has_reached Final m v) (posting meaning v m place post e).unsettled final.1
  unchanged (posts_day m day code readings) final e = both_ways (month_has_reached Final m v) (posting_day meaning v m day code readings e).unsettled final.1
  unchanged (bills m) final e = both_ways (month_has_reached Billed m v) (billing meaning v m e).unbilled (final_billed (month_at m v).state final.1)
  unchanged (trues_up m) final e = both_ways (month_has_reached Final m v) (truing meaning v m e).unsettled final.1
  unchanged (finalises m) final e = both_ways (month_has_reached Final m v) (finalising meaning v m e).unsettled final.1
  unchanged _ final e = both_ways false refl final.0

  pub takes_once : TakesOnce meaning v
  takes_once = record {
    opening = λ opened code contract substation carried.
        not_taken (opens code contract substation carried)
        (λ e. both_ways (is_some v.point) (opening meaning v code contract substation carried e) opened);
    start = λ days number. replied (refusal_of meaning (starts days) v) (length v.months + 1) number;
    bill = λ m billed.
        not_taken (bills m)
        (λ e. both_ways (month_has_reached Billed m v) (billing meaning v m e).unbilled billed.1);
    final = λ call final. not_taken call (unchanged call final);
  }

month_is : (m : ℕ) (v : View) → 1 ≤ m → month_has_reached Billed m v ≡ true → is_month m v ≡ true
month_is m v low billed =
    and_from (leb 1 m) (leb m (length v.months)) (le-leb 1 m low) (le-leb m (length v.months) (billed_there v m low billed))

pub is_billed : (m : ℕ) (v : View) → 1 ≤ m → month_has_reached Billed m v ≡ true → IsBilled m v
is_billed m v low h = (month_is m v low h, h)

pub is_final : (m : ℕ) (v : View) → 1 ≤ m → month_has_reached Final m v ≡ true → IsFinal m v
is_final m v low h = (month_is m v low (final_billed (month_at m v).state h), h)

module _ (meaning : Meaning) (run : Run) where
  abbrev reached : View
  reached = book_after meaning run

  -- on a new book a month reaches a state by its call alone
  only : (state : State) (m : ℕ) → 1 ≤ m → has_reached state Open ≡ false → month_has_reached state m reached ≡ true
      → HasAccepted (takes_to state m) (turns_of meaning run)
  only state m low further h =
      elim (run_only meaning state m low run.calls (new_book run) h) [
        | inl new ↦ elim (both_ways (has_reached state Open) further (ap (has_reached state) (sym no_month_open) ∙ new)) [ ]
        | inr made ↦ made
      ]

  ordered : InOrder meaning reached
  ordered = run_in_order meaning run.calls (new_book run) (λ m n low before h. h)

  pub has_states : HasStates (turns_of meaning run) reached
  has_states = record {
    billed = λ m low. (λ is. only Billed m low refl is.1, λ made. is_billed m reached low (run_made meaning Billed m low run.calls (new_book run) made));
    final = λ m low. (λ is. only Final m low refl is.1, λ made. is_final m reached low (run_made meaning Final m low run.calls (new_book run) made));
    final_billed = λ m is. (is.0, final_billed (month_at m reached).state is.1);
    billed_in_order = λ m n is low before. is_billed n reached low (ordered m n low before is.1);
    final_in_order = λ m n is low before.
        is_final n reached low (((reached_sound meaning run).settled m (month_there m reached is.0).0 is.1).earlier n low before);
  }
