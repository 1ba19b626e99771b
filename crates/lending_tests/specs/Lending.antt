-- What whoever lent memory to a book knows of it once the book is gone.
use Rattle.std.specs.Prelude.{◌≡◌, ℕ, ◌+◌, ◌*◌, ◌<◌, ◌≤◌, List, [], ◌∷◌, ◌++◌, length, ℤ, Some, Ok, IfOk, Result, slice_get}
use Rattle.std.specs.Borrow.{MutBor}
use Rattle.book.specs.Books.{LeavesMemory, Performs}
use Rattle.book.specs.Calls.{Call, bills}
use Rattle.book.specs.Views.{month_at, month_index, month_outcome}
use Rattle.book.specs.declared.book.Book.{Book}
use Rattle.ledger.specs.declared.entry.Entry.{Entry}
use Rattle.store.specs.Months.{hours_of, quarters_of}
use Rattle.store.specs.Records.{hour_of, reading_of}
use Rattle.store.specs.Stores.{capacity}
use Rattle.store.specs.declared.memory.Hour.{Hour}
use Rattle.store.specs.declared.memory.Quarter.{Quarter}
use Rattle.store.specs.declared.memory.TheConstants.{MONTH_HOURS, MONTH_QUARTERS}
use Rattle.tariff.specs.Pricing.{Meaning}
use Rattle.tariff.specs.declared.refusal.Refusal.{Refusal}
use Rattle.audit.specs.Audits.{Chooses, MakesRun}
use Rattle.audit.specs.Laws.{IsBill, Run, book_after, with_calls}

-- slices in which a book made a run and then billed month m, writing so many entries: what stands in them
pub record HoldBill (meaning : Meaning) (run : Run) (m count : ℕ)
    (quarters : List Quarter) (hours : List Hour) (entries : List Entry) : Type 0 where
  -- what the schedule gave for the month, and the entries of the bill: one for each line
  pub cents : List ℤ
  pub priced : month_outcome meaning (book_after meaning run) m ≡ Ok cents
  pub bill : List Entry
  pub billed : IsBill m cents bill
  pub written : length bill ≡ count
  pub fits : length (book_after meaning run).ledger + count ≤ run.room
  -- entry by entry, the ledger of the run and then the bill
  pub in_entries : (i : ℕ) → i < length (book_after meaning run).ledger + count
      → slice_get entries i ≡ slice_get ((book_after meaning run).ledger ++ bill) i
  -- and quarter by quarter and hour by hour the months on file, by their numbers from 1
  pub in_quarters : (n quarter : ℕ) → 1 ≤ n
      → let month = month_at n (book_after meaning (with_calls run (bills m ∷ []))) in
      quarter < quarters_of month.days
      → (held : Quarter) × (slice_get quarters (MONTH_QUARTERS * month_index n + quarter) ≡ Some held)
      × (slice_get month.readings quarter ≡ Some (reading_of held))
  pub in_hours : (n hour : ℕ) → 1 ≤ n
      → let month = month_at n (book_after meaning (with_calls run (bills m ∷ []))) in
      hour < hours_of month.days
      → (held : Hour) × (slice_get hours (MONTH_HOURS * month_index n + hour) ≡ Some held)
      × (slice_get month.hours hour ≡ Some (hour_of held))

-- the run of these calls on a book over slices of so many records
abbrev pub run_of : List Call → ℕ → ℕ → ℕ → Run
run_of calls quarters hours entries =
    record { capacity = capacity quarters hours; room = entries; calls = calls }

-- slices that were lent to a book for the calls of an analyst, a bill of month m and a call that is refused: what
-- they held when they were lent, and what they hold now that the book is gone
pub record LetGo {A : Type 0} (chooses : Chooses A) (meaning : Meaning) (turns : ℕ) (a : A) (m : ℕ)
    (lent_quarters : List Quarter) (lent_hours : List Hour) (lent_entries : List Entry)
    (r : Result ℕ Refusal) (b : A) (quarters : List Quarter) (hours : List Hour) (entries : List Entry)
    : Type 0 where
  -- the references that the audit was given
  pub quarters_ref : MutBor (List Quarter)
  pub hours_ref : MutBor (List Hour)
  pub entries_ref : MutBor (List Entry)
  pub quarters_lent : quarters_ref.now ≡ lent_quarters
  pub hours_lent : hours_ref.now ≡ lent_hours
  pub entries_lent : entries_ref.now ≡ lent_entries
  -- the book after the analyst's calls, and after the bill
  pub audited : Book
  pub made : MakesRun chooses meaning turns a quarters_ref hours_ref entries_ref b audited
  pub billed : Book
  pub bills : Performs meaning (bills m) audited r billed
  -- the call that was refused left every record as the bill did, free ones too
  pub left : LeavesMemory quarters hours entries billed
  pub holds : IfOk r (λ count. HoldBill meaning
      (run_of made.calls (length lent_quarters) (length lent_hours) (length lent_entries)) m count quarters hours entries)
