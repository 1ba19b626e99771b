-- Months that are not billed have no entry that counts: what a bill and a true-up leave of that.
use Rattle.std.proofs.Common.{◌≡◌, ℕ, ◌+◌, ◌<◌, true, false, List, [], ◌∷◌, ◌++◌, length, get_or, ℤ, pos, Ok, Err, Result, OnOk, OnErr, sym, refl, ap, ◌∙◌, inl, inr, arith}
use Rattle.std.proofs.lemmas.List.{get_or_append_left, get_or_past, get_or-set_other, get_or-set_same, set_past}
use Rattle.std.proofs.lemmas.Bool.{cases_Bool, cond-false, cond-true, cases_eq, cases_lt, true≢false}
use Rattle.ledger.specs.Entries.{entries_for, line_sum, entries_owed, sums}
use Rattle.ledger.specs.Ledgers.{entries_of}
use Rattle.ledger.specs.declared.ledger.Ledger.{Ledger}
use Rattle.ledger.specs.declared.ledger.NoRoom.{NoRoom}
use Rattle.ledger.specs.declared.entry.Entry.{Entry}
use Rattle.ledger.specs.declared.entry.EntryKind.{EntryKind}
use Rattle.ledger.specs.declared.entry.EntryKind.TheVariants.{Bill, TrueUp}
use Rattle.ledger.proofs.Sums.{differences_none, get_or_sums, length_sums, written_other_month}
use Rattle.store.specs.Months.{Month, advanced, months_with, new_month, no_month, has_reached, with_state}
use Rattle.store.specs.declared.month.State.{State}
use Rattle.store.specs.declared.month.State.TheVariants.{Open, Billed, Final}
use Rattle.tariff.specs.Limits.{line_count}
use Rattle.book.specs.Unbilled.{Unbilled}

-- a month that is taken on to a state is open after it only where it was open before
open_short : (new old : State) → has_reached new old ≡ false → has_reached Billed new ≡ false
    → has_reached Billed old ≡ false
open_short new Open short opened = refl
open_short Open old short opened = absurd (true≢false short)
open_short Billed old short opened = absurd (true≢false opened)
open_short Final old short opened = absurd (true≢false opened)

still_open : (state : State) (month : Month) → has_reached Billed (advanced state month).state ≡ false
    → has_reached Billed month.state ≡ false
still_open state month opened =
    elim (cases_Bool (has_reached state month.state)) [
      | inl reached ↦ rw (cond-true (has_reached state month.state) month (with_state state month) reached) at opened
      | inr short ↦ open_short state month.state short (rw (cond-false (has_reached state month.state) month (with_state state month) short) at opened)
    ]

-- a month that is taken on to billed is billed
billed_after : (month : Month) → has_reached Billed (advanced Billed month).state ≡ true
billed_after month =
    elim (cases_Bool (has_reached Billed month.state)) [
      | inl reached ↦ rw (cond-true (has_reached Billed month.state) month (with_state Billed month) reached) reached
      | inr short ↦ rw (cond-false (has_reached Billed month.state) month (with_state Billed month) short) refl
    ]

-- the month at a place is open
abbrev pub IsOpen : List Month → ℕ → Type 0
IsOpen months k = has_reached Billed (get_or months k no_month).state ≡ false

-- one month altered, and open after it only where it was open before
module _ (months : List Month) (at : ℕ) (alter : Month → Month)
    (still : (month : Month) → has_reached Billed (alter month).state ≡ false → has_reached Billed month.state ≡ false) where
  open_before : (k : ℕ) → IsOpen (months_with at alter months) k → IsOpen months k
  open_before k opened =
      let old = get_or months at no_month in
      elim (cases_lt at (length months)) [
        | inl there ↦
            elim (cases_eq k at) [
              | inl same ↦
                  let own = get_or-set_same months at (alter old) no_month there in
                  let now : has_reached Billed (alter old).state ≡ false = sym (ap (λ month. has_reached Billed month.state) own) ∙ ap (λ j. has_reached Billed (get_or (months_with at alter months) j no_month).state) (sym same) ∙ opened in
                  ap (λ j. has_reached Billed (get_or months j no_month).state) same ∙ still old now
              | inr other ↦ sym (ap (λ month. has_reached Billed month.state) (get_or-set_other months at k (alter old) no_month other)) ∙ opened
            ]
        | inr past ↦ sym (ap (λ ms. has_reached Billed (get_or ms k no_month).state) (set_past months at (alter old) past)) ∙ opened
      ]

  pub unbilled_altered : (entries : List Entry) → Unbilled months entries → Unbilled (months_with at alter months) entries
  unbilled_altered entries unbilled k opened = unbilled k (open_before k opened)

-- a month taken on to a state
pub unbilled_advanced : (state : State) (months : List Month) (entries : List Entry) → Unbilled months entries
    → (at : ℕ) → Unbilled (months_with at (advanced state) months) entries
unbilled_advanced state months entries unbilled at =
    unbilled_altered months at (advanced state) (still_open state) entries unbilled

module _ (months : List Month) (entries : List Entry) (unbilled : Unbilled months entries) (at m : ℕ)
    (is : m ≡ at + 1) (amounts : List ℤ) where
  -- a first bill writes the amounts themselves
  pub bill_owed : has_reached Billed (get_or months at no_month).state ≡ false
      → entries_owed Bill m amounts entries ≡ entries_for Bill m amounts
  bill_owed opened =
      ap (entries_for Bill m)
      (differences_none amounts (sums entries m)
      (λ k.
      elim (cases_lt k line_count) [
        | inl here ↦ get_or_sums entries m k here ∙ ap (λ n. line_sum entries n (k + 1)) is ∙ unbilled at opened (k + 1)
        | inr past ↦ get_or_past (sums entries m) k (pos 0) (rw (length_sums entries m) past)
      ]))

  module _ (counted : length amounts ≡ line_count) where
    -- entries of one month count in no other
    others : (kind : EntryKind) (months' : List Month)
        → ((k : ℕ) → IsOpen months' k → (k ≡ at → ⊥) × IsOpen months k)
        → Unbilled months' (entries ++ entries_owed kind m amounts entries)
    others kind months' spared k opened line =
        written_other_month kind entries m amounts counted (k + 1) line (λ e. (spared k opened).0 (omega arith)) ∙ unbilled k (spared k opened).1 line

    pub unbilled_billed : at < length months
        → Unbilled (months_with at (advanced Billed) months) (entries ++ entries_owed Bill m amounts entries)
    unbilled_billed there =
        let old = get_or months at no_month in
        others Bill (months_with at (advanced Billed) months)
        (λ k opened. (
          λ same.
              let own = get_or-set_same months at (advanced Billed old) no_month there in
              let now : true ≡ false = sym (billed_after old) ∙ sym (ap (λ month. has_reached Billed month.state) own) ∙ ap (λ j. has_reached Billed (get_or (months_with at (advanced Billed) months) j no_month).state) (sym same) ∙ opened in
              true≢false now,
          open_before months at (advanced Billed) (still_open Billed) k opened,
        ))

    pub unbilled_trued : has_reached Billed (get_or months at no_month).state ≡ true
        → (r : Result ℕ NoRoom) (old new : Ledger) → entries_of old ≡ entries
        → OnOk r (entries_of new ≡ entries ++ entries_owed TrueUp m amounts entries) → OnErr r (new ≡ old)
        → Unbilled months (entries_of new)
    unbilled_trued billed (Ok count) old new is written _ =
        rw written
        (others TrueUp months
        (λ k opened. (λ same. true≢false (sym billed ∙ ap (λ j. has_reached Billed (get_or months j no_month).state) (sym same) ∙ opened), opened)))
    unbilled_trued billed (Err no_room) old new is _ kept = rw (kept, is) unbilled

-- a month that was just started has no entries yet
never_billed : has_reached Billed no_month.state ≡ false
unfolding no_month new_month
never_billed = refl

pub unbilled_started : (months : List Month) (entries : List Entry) → Unbilled months entries
    → (month : Month) → Unbilled (months ++ month ∷ []) entries
unbilled_started months entries unbilled month k opened line =
    unbilled k
    (elim (cases_lt k (length months)) [
      | inl here ↦ rw (get_or_append_left months (month ∷ []) no_month k here) at opened
      | inr past ↦ rw (get_or_past months k no_month past) never_billed
    ])
    line
