-- What a run of described calls answers and leaves, and why there is none.
use Rattle.std.specs.Prelude.{◌≡◌, ℕ, ◌≢◌, List, [], ◌∷◌, ◌++◌, length, map, take, drop, min, Some, None, Option}
use Rattle.book.specs.Calls.{Call}
use Rattle.book.specs.Requests.{answer_of}
use Rattle.book.specs.Steps.{answer, step}
use Rattle.book.specs.Views.{View, blank_view}
use Rattle.book.specs.declared.request.Answer.TheVariants.{Written}
use Rattle.piles.specs.declared.rate.RateSheet.{RateSheet}
use Rattle.piles.specs.declared.rider.RiderSheet.{RiderSheet}
use Rattle.store.specs.declared.post.Reading.{Reading}
use Rattle.store.specs.declared.month.TheConstants.{MOST_MONTHS}
use Rattle.tariff.specs.Pricing.{Meaning}
use Rattle.exports.specs.Answers.{damaged_record, failure_record, record_of}
use Rattle.exports.specs.Calls.{described_call}
use Rattle.exports.specs.Entries.{entry_record}
use Rattle.exports.specs.Piles.{DescribesSheets, FailsToPile, sheets_meaning}
use Rattle.exports.specs.declared.answer.AnswerRecord.{AnswerRecord}
use Rattle.exports.specs.declared.call.CallRecord.{CallRecord}
use Rattle.exports.specs.declared.entry.EntryRecord.{EntryRecord}
use Rattle.exports.specs.declared.failure.Failure.{Failure}
use Rattle.exports.specs.declared.failure.Failure.TheVariants.{Damaged, NoMemory}
use Rattle.exports.specs.declared.sheets.RateRecord.{RateRecord}
use Rattle.exports.specs.declared.sheets.RiderRecord.{RiderRecord}

-- ---- calls one after another, none where a record describes none

-- a record that describes no call is answered as damaged, and alters nothing
abbrev pub answer_to : Meaning → Option Call → View → AnswerRecord
answer_to meaning (Some call) v = record_of (answer_of call (answer meaning call v))
answer_to meaning None v = damaged_record

abbrev pub view_after_call : Meaning → Option Call → View → View
view_after_call meaning (Some call) v = step meaning call v
view_after_call meaning None v = v

abbrev pub answers_to : Meaning → List (Option Call) → View → List AnswerRecord
answers_to meaning [] v = []
answers_to meaning (call ∷ calls) v =
    answer_to meaning call v ∷ answers_to meaning calls (view_after_call meaning call v)

abbrev pub view_after_calls : Meaning → List (Option Call) → View → View
view_after_calls meaning [] v = v
view_after_calls meaning (call ∷ calls) v = view_after_calls meaning calls (view_after_call meaning call v)

-- ---- what a run gives to its caller

-- the book that a run begins with
abbrev pub new_book : ℕ → List EntryRecord → View
new_book months entries = blank_view (min MOST_MONTHS months) (length entries)

-- the records with these over the first of them, as many as fit
abbrev pub records_with : List EntryRecord → List EntryRecord → List EntryRecord
records_with new records = take (length records) new ++ drop (length new) records

-- what calls made on a book answer, the ledger that they leave, and how many entries it has
pub record IsRun (meaning : Meaning) (calls : List (Option Call)) (v : View) (entries : List EntryRecord)
    (answers' : List AnswerRecord) (entries' : List EntryRecord) (count : ℕ) : Type 0 where
  pub answers : answers' ≡ answers_to meaning calls v
  pub ledger : entries' ≡ records_with (map entry_record (view_after_calls meaning calls v).ledger) entries
  pub count_is : count ≡ length (view_after_calls meaning calls v).ledger

-- the calls described are made on a new book, under the sheets described
pub record MakesCalls (rate : RateRecord) (riders : List RiderRecord) (months : ℕ) (carried : List ℕ)
    (readings : List Reading) (calls : List CallRecord) (entries : List EntryRecord)
    (answers' : List AnswerRecord) (entries' : List EntryRecord) (count : ℕ) : Type 0 where
  pub sheet : RateSheet
  pub sheets : List RiderSheet
  pub described : DescribesSheets rate riders sheet sheets
  pub run : IsRun (sheets_meaning sheet sheets) (map (described_call carried readings) calls)
      (new_book months entries) entries answers' entries' count

-- the first that holds: there is not an answer for each call, there is no such pile, no memory for the book
pub data FailsToRun (rate : RateRecord) (riders : List RiderRecord) (calls : List CallRecord)
    (answers : List AnswerRecord) : Failure → Type 0 where
  no_answer_for_each : length answers ≢ length calls → FailsToRun rate riders calls answers Damaged
  no_pile : {failure : Failure} → length answers ≡ length calls → FailsToPile rate riders failure
      → FailsToRun rate riders calls answers failure
  no_memory : (sheet : RateSheet) (sheets : List RiderSheet) → length answers ≡ length calls
      → DescribesSheets rate riders sheet sheets
      → FailsToRun rate riders calls answers NoMemory

-- what the call answers, with answers and entries before and after it
pub data AnswersRun (rate : RateRecord) (riders : List RiderRecord) (months : ℕ) (carried : List ℕ)
    (readings : List Reading) (calls : List CallRecord) (answers : List AnswerRecord)
    (entries : List EntryRecord) : AnswerRecord → List AnswerRecord → List EntryRecord → Type 0 where
  runs : {count : ℕ} {answers' : List AnswerRecord} {entries' : List EntryRecord}
      → MakesCalls rate riders months carried readings calls entries answers' entries' count
      → AnswersRun rate riders months carried readings calls answers entries
      (record_of (Written count)) answers' entries'
  fails : {failure : Failure} → FailsToRun rate riders calls answers failure
      → AnswersRun rate riders months carried readings calls answers entries
      (failure_record failure) answers entries
