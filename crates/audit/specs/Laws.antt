-- What holds of a book whatever calls an analyst chooses, as laws over runs.
use Rattle.std.specs.Prelude.{◌≡◌, ℕ, ◌+◌, ◌-◌, ◌-ℤ◌, ◌<◌, ◌≤◌, Bool, true, false, List, [], ◌∷◌, ◌++◌, length, ℤ, pos, is_some, Some, Ok, Err, Result, IsErr, IsTrue, ◌↔◌, ◌≢◌, slice_get, slice_index_or}
use Rattle.book.specs.Calls.{Call, Reply, opens, starts, bills, trues_up, asks, whether_due, line_total}
use Rattle.book.specs.Steps.{answer}
use Rattle.book.specs.Views.{View, blank_view, contract_of, facts_of, month_at, month_outcome, substation_of}
use Rattle.ledger.specs.Entries.{line_sum}
use Rattle.ledger.specs.declared.entry.Entry.{Entry}
use Rattle.ledger.specs.declared.entry.EntryKind.TheVariants.{Bill, TrueUp}
use Rattle.tariff.specs.Limits.{line_count}
use Rattle.tariff.specs.Pricing.{Meaning}
use Rattle.tariff.specs.declared.facts.PlainFacts.{PlainFacts}
use Rattle.tariff.specs.declared.hours.HourRow.{HourRow}
use Rattle.tariff.specs.declared.refusal.Fault.{Fault}
use Rattle.tariff.specs.declared.refusal.Refusal.{Refusal}
use Rattle.tariff.specs.declared.refusal.Refusal.TheVariants.{LinePastLimit}
use Rattle.audit.specs.Histories.{Turn, history, numbers_returned}
use Rattle.audit.specs.LastPosts.{HoldsLastPosts}
use Rattle.audit.specs.Runs.{view_at_pricing, view_after_calls, entries_of_calls}
use Rattle.audit.specs.States.{HasStates, IsBilled, IsFinal, month_changed}

-- the amount of the line at index i, from 0; its number is i + 1
abbrev amount_at : List ℤ → ℕ → ℤ
amount_at cents i = slice_index_or cents i (pos 0)

-- what the month was priced at by its latest accepted bill or true-up among the calls from v on: the book as
-- that call found it, and what the schedule made of its file
pub record IsLatestPricing (meaning : Meaning) (calls : List Call) (v : View) (m : ℕ)
    (cents : List ℤ) : Type 0 where
  pub stood : View
  pub latest : view_at_pricing meaning calls v m ≡ Some stood
  pub amounts : month_outcome meaning stood m ≡ Ok cents

-- two books, each with a month of its own, agree on all that a bill of the month may depend on
pub record Agree (v : View) (m : ℕ) (w : View) (n : ℕ) : Type 0 where
  pub contract : contract_of v.point ≡ contract_of w.point
  pub substation : substation_of v.point ≡ substation_of w.point
  pub ratchet_peak : (facts_of v m).ratchet_peak ≡ (facts_of w n).ratchet_peak
  -- as many readings are those of as many days
  pub readings : (month_at m v).readings ≡ (month_at n w).readings
  -- prices and scheduled amounts
  pub hours : (month_at m v).hours ≡ (month_at n w).hours

-- a run: calls on a new book over memory for so many months and entries
pub record Run : Type 0 where
  pub capacity : ℕ
  pub room : ℕ
  pub calls : List Call

abbrev pub new_book : Run → View
new_book run = blank_view run.capacity run.room

abbrev pub book_after : Meaning → Run → View
book_after meaning run = view_after_calls meaning run.calls (new_book run)

abbrev pub turns_of : Meaning → Run → List Turn
turns_of meaning run = history meaning run.calls (new_book run)

-- a run that goes on
abbrev pub with_calls : Run → List Call → Run
with_calls run more = record run { calls = run.calls ++ more }

-- the entries that a bill adds where the schedule gave these amounts: one for each line, in their order
pub record IsBill (m : ℕ) (cents : List ℤ) (added : List Entry) : Type 0 where
  pub counted : length added ≡ line_count
  pub lines : (i : ℕ) → i < line_count
      → slice_get added i ≡ Some (record { month = m; kind = Bill; line = i + 1; cents = amount_at cents i })

-- an entry that a true-up adds: for a line whose amount differs from its sum so far, with the difference
pub record IsTrueUpEntry (m : ℕ) (cents : List ℤ) (before : List Entry) (entry : Entry) : Type 0 where
  pub month : entry.month ≡ m
  pub kind : entry.kind ≡ TrueUp
  pub line : (1 ≤ entry.line) × (entry.line ≤ line_count)
  pub differs : amount_at cents (entry.line - 1) ≢ line_sum before m entry.line
  pub difference : entry.cents ≡ amount_at cents (entry.line - 1) -ℤ line_sum before m entry.line

-- the entries that a true-up adds to those before it: such entries alone, one for each such line, in the order
-- of lines
pub record IsTrueUp (m : ℕ) (cents : List ℤ) (before added : List Entry) : Type 0 where
  pub each : (k : ℕ) (entry : Entry) → slice_get added k ≡ Some entry → IsTrueUpEntry m cents before entry
  pub every : (i : ℕ) → i < line_count → amount_at cents i ≢ line_sum before m (i + 1)
      → (k : ℕ) × (entry : Entry) × (slice_get added k ≡ Some entry) × (entry.line ≡ i + 1)
  pub rising : (j k : ℕ) (one two : Entry) → j < k
      → slice_get added j ≡ Some one → slice_get added k ≡ Some two → one.line < two.line

-- the entries that a call adds to the ledger of a book, by what it was answered: those of an accepted bill or
-- true-up, and none for any other call
abbrev pub Adds : Meaning → View → (call : Call) → Result (Reply call) Refusal → List Entry → Type 0
Adds meaning v _ (Err refusal) added = added ≡ []
Adds meaning v (bills m) (Ok count) added =
    (cents : List ℤ) × (month_outcome meaning v m ≡ Ok cents) × IsBill m cents added
Adds meaning v (trues_up m) (Ok count) added =
    (cents : List ℤ) × (month_outcome meaning v m ≡ Ok cents) × IsTrueUp m cents v.ledger added
Adds meaning v _ _ added = added ≡ []

-- what a book takes once, and then no more
pub record TakesOnce (meaning : Meaning) (v : View) : Type 0 where
  -- an open book takes no second opening
  pub opening : is_some v.point ≡ true → (code : List ℕ) (contract substation : ℕ) (carried : List ℕ)
      → IsErr (answer meaning (opens code contract substation carried) v)
  -- an accepted start is of the month after those there
  pub start : (days number : ℕ) → answer meaning (starts days) v ≡ Ok number → number ≡ length v.months + 1
  -- a billed month takes no second bill
  pub bill : (m : ℕ) → IsBilled m v → IsErr (answer meaning (bills m) v)
  -- a final month takes no post, bill, true-up or finalise
  pub final : (call : Call) → IsFinal (month_changed call) v → IsErr (answer meaning call v)

-- what holds of every run under a schedule of this meaning
pub record Promise (meaning : Meaning) : Type 0 where
  -- the ledger is what the accepted bills and true-ups wrote, in their order, and nothing else
  pub ledger : (run : Run)
      → (book_after meaning run).ledger ≡ entries_of_calls meaning run.calls (new_book run)
  -- on each line of a billed month the entries add up to what the schedule made of the file as it stood
  -- at the latest pricing, and total answers that sum
  pub sums : (run : Run) (m : ℕ)
      → IsBilled m (book_after meaning run)
      → (cents : List ℤ) × IsLatestPricing meaning run.calls (new_book run) m cents
      × ((i : ℕ) → i < line_count
      → (line_sum (book_after meaning run).ledger m (i + 1) ≡ amount_at cents i)
      × (answer meaning (asks (line_total m (i + 1))) (book_after meaning run) ≡ Ok (amount_at cents i)))
  -- of a billed month due says yes exactly when some line would now be priced otherwise than at the latest
  -- pricing
  pub due : (run : Run) (m : ℕ)
      → IsBilled m (book_after meaning run)
      → (then now : List ℤ)
      → IsLatestPricing meaning run.calls (new_book run) m then
      → month_outcome meaning (book_after meaning run) m ≡ Ok now
      → (yes : Bool) × (answer meaning (asks (whether_due m)) (book_after meaning run) ≡ Ok yes)
      × (IsTrue yes ↔ ((i : ℕ) × (i < line_count) × (amount_at now i ≢ amount_at then i)))
  -- and it is refused, with the fault, where the schedule now has one
  pub refuses : (run : Run) (m : ℕ)
      → IsBilled m (book_after meaning run)
      → (fault : Fault)
      → month_outcome meaning (book_after meaning run) m ≡ Err fault
      → answer meaning (asks (whether_due m)) (book_after meaning run) ≡ Err (LinePastLimit m fault)
  -- nothing else enters a bill: where two books under schedules of one meaning agree, and neither month is due,
  -- each line adds up alike
  pub alike : (other : Meaning)
      → ((facts : PlainFacts) (hours : List HourRow) → meaning facts hours ≡ other facts hours)
      → (run run' : Run) (m n : ℕ)
      → IsBilled m (book_after meaning run)
      → IsBilled n (book_after other run')
      → Agree (book_after meaning run) m (book_after other run') n
      → answer meaning (asks (whether_due m)) (book_after meaning run) ≡ Ok false
      → answer other (asks (whether_due n)) (book_after other run') ≡ Ok false
      → (i : ℕ) → i < line_count
      → line_sum (book_after meaning run).ledger m (i + 1) ≡ line_sum (book_after other run').ledger n (i + 1)
  -- of a final month due says no however the run goes on, and its sums never move
  pub final : (run : Run) (m : ℕ)
      → IsFinal m (book_after meaning run)
      → (more : List Call)
      → (answer meaning (asks (whether_due m)) (book_after meaning (with_calls run more)) ≡ Ok false)
      × ((l : ℕ)
      → line_sum (book_after meaning (with_calls run more)).ledger m l
      ≡ line_sum (book_after meaning run).ledger m l)
  -- one call more adds what Adds says behind the entries that stand there, and changes or removes none
  pub entries : (run : Run) (call : Call)
      → (added : List Entry)
      × ((book_after meaning (with_calls run (call ∷ []))).ledger ≡ (book_after meaning run).ledger ++ added)
      × Adds meaning (book_after meaning run) call (answer meaning call (book_after meaning run)) added
  -- there are as many entries as the accepted bills and true-ups answered that they wrote
  pub counted : (run : Run)
      → length (book_after meaning run).ledger ≡ numbers_returned (turns_of meaning run)
  -- the last accepted post for a place stands, and nothing else moves what is on file
  pub on_file : (run : Run) → HoldsLastPosts (turns_of meaning run) (book_after meaning run)
  -- the months have come as far as the accepted bills and finalises took them
  pub states : (run : Run) → HasStates (turns_of meaning run) (book_after meaning run)
  -- a billed month stays billed, and a final one final
  pub lasting : (run : Run) (more : List Call) (m : ℕ)
      → (IsBilled m (book_after meaning run) → IsBilled m (book_after meaning (with_calls run more)))
      × (IsFinal m (book_after meaning run) → IsFinal m (book_after meaning (with_calls run more)))
  -- what was opened, started, billed or made final is not so again
  pub closed : (run : Run) → TakesOnce meaning (book_after meaning run)
  -- the lent memory holds as many months and entries as at the beginning
  pub memory : (run : Run)
      → ((book_after meaning run).capacity ≡ run.capacity) × ((book_after meaning run).room ≡ run.room)
