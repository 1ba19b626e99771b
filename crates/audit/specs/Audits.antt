-- An audit: calls performed on a book as an analyst chooses them, each after it was shown the last answer.
use Rattle.std.specs.Prelude.{◌≡◌, ℕ, zero, suc, List, [], ◌∷◌, length, Some, None, Option, option_map}
use Rattle.std.specs.Borrow.{MutBor}
use Rattle.book.specs.Books.{IsLent, LeavesMemory, view}
use Rattle.book.specs.Calls.{Call}
use Rattle.book.specs.Requests.{PerformsAs, call_of}
use Rattle.book.specs.Views.{blank_view}
use Rattle.book.specs.declared.book.Book.{Book}
use Rattle.book.specs.declared.request.Answer.{Answer}
use Rattle.book.specs.declared.request.Answer.TheVariants.{Begun}
use Rattle.book.specs.declared.request.Request.{Request}
use Rattle.ledger.specs.declared.entry.Entry.{Entry}
use Rattle.store.specs.Stores.{capacity}
use Rattle.store.specs.declared.memory.Hour.{Hour}
use Rattle.store.specs.declared.memory.Quarter.{Quarter}
use Rattle.tariff.specs.Pricing.{Meaning}
use Rattle.audit.specs.Runs.{view_after_calls}

-- the call that a request is, or none
abbrev pub next_call : Option Request → Option Call
next_call request = option_map call_of request

-- an analyst's choice: what it knows, the last answer, the call that it then chooses, or none to stop, and
-- what it knows after that
abbrev pub Chooses : Type 0 → Type 1
Chooses A = A → Answer → Option Call → A → Type 0

-- an audit of at most so many turns: the calls performed on the book are those that the analyst chose, one
-- after another, each after it was shown what the last one answered, until it stopped or the turns were over
pub data Audits {A : Type 0} (chooses : Chooses A) (meaning : Meaning) : ℕ → A → Answer → Book → List Call → A
    → Book → Type 0 where
  -- no turn is left, and it is not asked again
  over : {a : A} {last : Answer} {book : Book} → Audits chooses meaning zero a last book [] a book
  stops : {n : ℕ} {a b : A} {last : Answer} {book : Book} → chooses a last None b
      → Audits chooses meaning (suc n) a last book [] b book
  goes_on : {n : ℕ} {a b c : A} {last given : Answer} {book next end : Book} {call : Call} {calls : List Call}
      → chooses a last (Some call) b
      → PerformsAs meaning call book given next
      → Audits chooses meaning n b given next calls c end
      → Audits chooses meaning (suc n) a last book (call ∷ calls) c end

-- the run that an audit made: the new book over the lent memory, the calls, and the book that they left
pub record MakesRun {A : Type 0} (chooses : Chooses A) (meaning : Meaning) (turns : ℕ) (a : A)
    (quarters : MutBor (List Quarter)) (hours : MutBor (List Hour)) (entries : MutBor (List Entry))
    (b : A) (end : Book) : Type 0 where
  pub new : Book
  pub blank : view new ≡ blank_view (capacity (length quarters.now) (length hours.now)) (length entries.now)
  -- every record of the memory is as it was lent
  pub kept : LeavesMemory quarters.now hours.now entries.now new
  pub calls : List Call
  pub chosen : Audits chooses meaning turns a Begun new calls b end
  -- so what the last book holds is what the laws over runs speak of
  pub holds : view end ≡ view_after_calls meaning calls (view new)
  -- in the memory that was lent
  pub lent : IsLent quarters hours entries end
