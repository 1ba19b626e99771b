-- What the slices hold once the book is gone, from what the contracts of its calls say.
use denote.MutBor.{now}
use Rattle.std.proofs.Common.{MutBor, ◌≡◌, ℕ, ◌+◌, ◌*◌, ◌<◌, ◌≤◌, Bool, true, false, not, leb, List, [], ◌∷◌, ◌++◌, length, Some, Ok, Err, Result, sym, refl, ap, ◌∙◌, subst, arith, length-append, length-take}
use Rattle.std.specs.Prelude.{slice_get}
use Rattle.ledger.specs.declared.entry.Entry.{Entry}
use Rattle.store.specs.Months.{days_within, hours_of, quarters_of}
use Rattle.store.specs.Records.{hour_of, reading_of}
use Rattle.store.specs.declared.memory.Hour.{Hour}
use Rattle.store.specs.declared.memory.Quarter.{Quarter}
use Rattle.store.specs.declared.memory.TheConstants.{MONTH_HOURS, MONTH_QUARTERS}
use Rattle.tariff.specs.Pricing.{Meaning}
use Rattle.tariff.specs.declared.refusal.Refusal.{Refusal}
use Rattle.tariff.specs.declared.refusal.Refusal.TheVariants.{DaysOutside, NoMonthFree}
use Rattle.book.specs.Books.{IsUnaltered, LeavesMemory, Performs, StandsIn, view}
use Rattle.book.specs.Calls.{Call, bills, starts}
use Rattle.book.specs.Steps.{answer, reply, reply_unless, step}
use Rattle.book.specs.Table.{Row, blank_book, first_holding, row}
use Rattle.book.specs.Views.{View, month_at, month_index}
use Rattle.book.specs.declared.book.Book.{Book}
use Rattle.book.proofs.Exits.{unaltered_view}
use Rattle.audit.specs.Histories.{history, number_returned, numbers_returned}
use Rattle.audit.specs.Laws.{Promise, Run, book_after, new_book, with_calls}
use Rattle.audit.specs.Runs.{view_after_calls}
use Rattle.audit.specs.Audits.{Chooses, MakesRun}
use Rattle.lending_tests.specs.Lending.{HoldBill, LetGo}

-- a run with one call more
module _ (meaning : Meaning) (call : Call) where
  one_more : (calls : List Call) (v : View)
      → view_after_calls meaning (calls ++ call ∷ []) v ≡ step meaning call (view_after_calls meaning calls v)
  one_more [] v = refl
  one_more (first ∷ calls) v = one_more calls (step meaning first v)

  returned_more : (calls : List Call) (v : View)
      → numbers_returned (history meaning (calls ++ call ∷ []) v)
      ≡ numbers_returned (history meaning calls v) + number_returned call (answer meaning call (view_after_calls meaning calls v))
  returned_more [] v = omega arith
  returned_more (first ∷ calls) v = let more = returned_more calls (step meaning first v) in omega (arith, more)

-- a row that holds refuses, whatever stands before it
last_holds : (one two last : Row) → last.holds ≡ true
    → (refusal : Refusal) × (first_holding (one ∷ two ∷ last ∷ []) ≡ Some refusal)
last_holds one two last holds = by one.holds two.holds last.holds refl refl holds
  where
    by : (a b c : Bool) → one.holds ≡ a → two.holds ≡ b → last.holds ≡ true
        → (refusal : Refusal) × (first_holding (one ∷ two ∷ last ∷ []) ≡ Some refusal)
    by true b c first second third = (one.refusal, rw first refl)
    by false true c first second third = (two.refusal, rw (first, second) refl)
    by false false c first second third = (last.refusal, rw (first, second, third) refl)

-- no month has 27 days: the book is left as it was
pub refused_left : (meaning : Meaning) (book end : Book) (r : Result ℕ Refusal)
    → Performs meaning (starts 27) book r end → IsUnaltered book end
refused_left meaning book end r made =
    let v = view book in
    let found = last_holds (blank_book 0 v) (row (leb v.capacity (length v.months)) NoMonthFree) (row (not (days_within 27)) DaysOutside) refl in
    let refused : r ≡ Err found.0 = made.answers ∙ ap (λ o. reply_unless o (reply meaning (starts 27) v)) found.1 in
    rw refused at made.keeps

module _ (meaning : Meaning) (promise : Promise meaning) (stands : (book : Book) → StandsIn book)
    (run : Run) (m count : ℕ) (begun billed end : Book)
    (began : view begun ≡ book_after meaning run) (made : Performs meaning (bills m) begun (Ok count) billed)
    (left : IsUnaltered billed end) where
  ended : View
  ended = book_after meaning (with_calls run (bills m ∷ []))

  held : view end ≡ ended
  unfolding ended
  held = unaltered_view billed end left ∙ made.leaves ∙ ap (step meaning (bills m)) began
      ∙ sym (one_more meaning (bills m) run.calls (new_book run))

  answered : answer meaning (bills m) (book_after meaning run) ≡ Ok count
  answered = ap (answer meaning (bills m)) (sym began) ∙ sym made.answers

  pub hold_bill : {quarters : List Quarter} {hours : List Hour} {entries : List Entry}
      → quarters ≡ end.quarters.now → hours ≡ end.hours.now → entries ≡ end.entries.now
      → HoldBill meaning run m count quarters hours entries
  unfolding ended
  hold_bill same_quarters same_hours same_entries =
      let v = book_after meaning run in
      let grown = promise.entries run (bills m) in
      let paid = rw answered at grown.2 in
      let before = promise.counted run in
      let after = promise.counted (with_calls run (bills m ∷ [])) in
      let more = returned_more meaning (bills m) run.calls (new_book run) in
      let number : number_returned (bills m) (answer meaning (bills m) v) ≡ count = ap (number_returned (bills m)) answered in
      let both = ap length grown.1 in
      let counted : length grown.0 ≡ count = omega (arith, before, after, more, number, both, length-append v.ledger grown.0) in
      let ledger : (view end).ledger ≡ v.ledger ++ grown.0 = ap (λ w. w.ledger) held ∙ grown.1 in
      let many : length (view end).ledger ≡ length v.ledger + count =
      ap length ledger ∙ length-append v.ledger grown.0 ∙ ap (λ n. length v.ledger + n) counted in
      let room : length end.entries.now ≡ run.room = ap (λ w. w.room) held ∙ (promise.memory (with_calls run (bills m ∷ []))).1 in
      let short = length-take end.written end.entries.now in
      record {
        cents = paid.0;
        priced = paid.1;
        bill = grown.0;
        billed = paid.2;
        written = counted;
        fits = omega (arith, many, room, short);
        in_entries = λ i here.
            ap (λ es. slice_get es i) same_entries ∙ (stands end).entries i (omega (arith, here, many)) ∙ ap (λ es. slice_get es i) ledger;
        in_quarters = rw same_quarters (subst (λ w. (n quarter : ℕ) → 1 ≤ n → let month = month_at n w in quarter < quarters_of month.days
            → (held : Quarter) × (slice_get end.quarters.now (MONTH_QUARTERS * month_index n + quarter) ≡ Some held)
            × (slice_get month.readings quarter ≡ Some (reading_of held))) held (λ n quarter low. (stands end).months.quarters (month_index n) quarter));
        in_hours = rw same_hours (subst (λ w. (n hour : ℕ) → 1 ≤ n → let month = month_at n w in hour < hours_of month.days
            → (held : Hour) × (slice_get end.hours.now (MONTH_HOURS * month_index n + hour) ≡ Some held)
            × (slice_get month.hours hour ≡ Some (hour_of held))) held (λ n hour low. (stands end).months.hours (month_index n) hour));
      }

-- the audit's book, the bill's, and what the slices hold
module _ {A : Type 0} {chooses : Chooses A} {meaning : Meaning} {turns : ℕ} {a b : A}
    {lent_quarters : MutBor (List Quarter)} {lent_hours : MutBor (List Hour)} {lent_entries : MutBor (List Entry)}
    {audited billed end : Book} {quarters : List Quarter} {hours : List Hour} {entries : List Entry}
    (made : MakesRun chooses meaning turns a lent_quarters lent_hours lent_entries b audited)
    (unaltered : IsUnaltered billed end)
    (same_quarters : quarters ≡ end.quarters.now) (same_hours : hours ≡ end.hours.now) (same_entries : entries ≡ end.entries.now) where
  left : LeavesMemory quarters hours entries billed
  left = record {
    quarters = sym (same_quarters ∙ ap now unaltered.quarters);
    hours = sym (same_hours ∙ ap now unaltered.hours);
    entries = sym (same_entries ∙ ap now unaltered.entries);
  }

  pub let_go_taken : (m count : ℕ) → Promise meaning → ((book : Book) → StandsIn book)
      → Performs meaning (bills m) audited (Ok count) billed
      → LetGo chooses meaning turns a m lent_quarters.now lent_hours.now lent_entries.now (Ok count) b quarters hours entries
  let_go_taken m count promise stands paid = record {
    quarters_ref = lent_quarters;
    hours_ref = lent_hours;
    entries_ref = lent_entries;
    quarters_lent = refl;
    hours_lent = refl;
    entries_lent = refl;
    audited = audited;
    made = made;
    billed = billed;
    bills = paid;
    left = left;
    holds = hold_bill meaning promise stands _ m count audited billed end
        (made.holds ∙ ap (view_after_calls meaning made.calls) made.blank) paid unaltered same_quarters same_hours same_entries;
  }

  pub let_go_refused : (m : ℕ) (refusal : Refusal) → Performs meaning (bills m) audited (Err refusal) billed
      → LetGo chooses meaning turns a m lent_quarters.now lent_hours.now lent_entries.now (Err refusal) b quarters hours entries
  let_go_refused m refusal refused = record {
    quarters_ref = lent_quarters;
    hours_ref = lent_hours;
    entries_ref = lent_entries;
    quarters_lent = refl;
    hours_lent = refl;
    entries_lent = refl;
    audited = audited;
    made = made;
    billed = billed;
    bills = refused;
    left = left;
    holds = tt;
  }
