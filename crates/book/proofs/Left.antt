-- What a call leaves in the book of what it lends to a store or to a ledger.
use denote.MutBor.{MutBor, gone, now}
use Rattle.std.proofs.Common.{◌≡◌, ℕ, false, List, length, slice_set, take, IsErrAnd, None, Ok, Err, Result, sym, refl, ap, ◌∙◌}
use Rattle.std.specs.Result.{MatchResult}
use Rattle.std.proofs.lemmas.Bool.{cond-false}
use Rattle.ledger.specs.Entries.{IsLedger}
use Rattle.ledger.specs.Ledgers.{entries_of, room_of}
use Rattle.ledger.specs.declared.entry.Entry.{Entry}
use Rattle.ledger.specs.declared.ledger.Ledger.{Ledger}
use Rattle.store.proofs.Kept.{filed_from, same_filed}
use Rattle.store.specs.Months.{Month, advanced, has_reached, months_with, with_state}
use Rattle.store.specs.Records.{Keeps}
use Rattle.store.specs.Stores.{Alters, Filed, capacity_of, earlier_peaks_of, filed, filed_as, months_of}
use Rattle.store.specs.declared.memory.Hour.{Hour}
use Rattle.store.specs.declared.memory.Quarter.{Quarter}
use Rattle.store.specs.declared.month.MonthRecords.{MonthRecords}
use Rattle.store.specs.declared.month.State.{State}
use Rattle.store.specs.declared.store.Store.{Store}
use Rattle.tariff.specs.Pricing.{Meaning}
use Rattle.tariff.specs.declared.refusal.Refusal.{Refusal}
use Rattle.book.specs.Books.{IsUnaltered, Performs, SameMemory, file_of, point_of, view}
use Rattle.book.specs.Calls.{Call, Reply}
use Rattle.book.specs.NamedMonths.{IsInBook}
use Rattle.book.specs.Steps.{reply, view_after}
use Rattle.book.specs.Table.{refusal_of}
use Rattle.book.specs.Unbilled.{IsUnbilled, Unbilled}
use Rattle.book.specs.Views.{View, month_at, month_has_reached, month_index}
use Rattle.book.specs.declared.book.Book.{Book}
use Rattle.book.specs.declared.book.NamedMonth.{NamedMonth}
use Rattle.book.proofs.Exits.{is_taken, same_file}

-- a store over what a book lends
pub record IsStoreOf (book : Book) (store : Store) : Type 0 where
  pub months : book.months ≡ store.months.now
  pub quarters : book.quarters.now ≡ store.quarters.now
  pub hours : book.hours.now ≡ store.hours.now

pub lent_file : {book : Book} {store : Store} → IsStoreOf book store → file_of book ≡ filed store
lent_file {book} {store} lends = filed_from book.filed lends.months lends.quarters lends.hours store.kept

-- the months on file do not depend on how it was shown that the memory has room for them
pub filed_alike : (book : Book) (kept : Keeps book.months book.quarters.now book.hours.now)
    → file_of book ≡ filed_as book.months book.quarters.now book.hours.now kept
filed_alike book kept = same_filed book.months book.quarters.now book.hours.now book.filed kept

-- a reference that points where it did, with the same behind it
whole : {X : Type 0} (old new : MutBor X) → gone new ≡ gone old → new.now ≡ old.now → new ≡ old
whole old new same behind =
    λ i. record {
      ref_ptr = (same i).ref_ptr;
      ghost_name = (same i).ghost_name;
      now = behind i;
    }

-- a book's references before a call and after it, whatever stands behind them
pub record SameReferences (book book' : Book) : Type 0 where
  pub quarters : gone book'.quarters ≡ gone book.quarters
  pub hours : gone book'.hours ≡ gone book.hours

-- a book before a call and after it, with the store over what it lends then
module _ (book : Book) {book' : Book} {new : Store} (left : IsStoreOf book' new) where
  -- the store refused, and nothing else was altered
  pub unaltered_left : {old : Store} → IsStoreOf book old → book'.point ≡ book.point → book'.written ≡ book.written
      → book'.entries ≡ book.entries → SameReferences book book' → new ≡ old → IsUnaltered book book'
  unaltered_left lent point written entries behind same = record {
    point = point;
    months = left.months ∙ ap (λ store. store.months.now) same ∙ sym lent.months;
    written = written;
    quarters = whole book.quarters book'.quarters behind.quarters
        (left.quarters ∙ ap (λ store. store.quarters.now) same ∙ sym lent.quarters);
    hours = whole book.hours book'.hours behind.hours
        (left.hours ∙ ap (λ store. store.hours.now) same ∙ sym lent.hours);
    entries = entries;
  }

  module _ {entries : List Entry} (same : book'.entries.now ≡ entries) (room : length entries ≡ length book.entries.now)
      {file : Filed} (lent : file_of book ≡ file) where
    pub view_left : capacity_of (filed new) ≡ capacity_of file
        → view book' ≡ record (view book) {
          point = point_of book'.point;
          before = earlier_peaks_of (filed new);
          months = months_of (filed new);
          ledger = take book'.written entries;
        }
    view_left capacity = rw (lent_file left, lent, capacity, same, room) refl

    -- one month was altered, so a call was taken
    pub is_altered : (meaning : Meaning) (call : Call) (k : ℕ) (alter : Month → Month) → Alters k alter file (filed new)
        → book'.point ≡ book.point → SameMemory book book' → (r : Reply call)
        → refusal_of meaning call (view book) ≡ None → r ≡ reply meaning call (view book)
        → record (view book) {
          months = months_with k alter (view book).months;
          ledger = take book'.written entries;
        } ≡ view_after meaning call (view book)
        → Performs meaning call book (Ok r) book'
    is_altered meaning call k alter altered point memory r by replied made =
        is_taken meaning call book book' r by replied
        (view_left altered.capacity ∙ rw (lent, altered.months, altered.before, point) refl ∙ made) memory

-- a month that is short of a state is taken on to it
pub taken_on : (m : ℕ) (v : View) (found : NamedMonth) → IsInBook m v found → (state : State)
    → month_has_reached state m v ≡ false
    → months_with found.index (advanced state) v.months ≡ months_with (month_index m) (with_state state) v.months
taken_on m v found is state short =
    let month = month_at m v in
    ap (λ k. months_with k (advanced state) v.months) is.index
    ∙ ap (slice_set v.months (month_index m)) (cond-false (has_reached state month.state) month (with_state state month) short)

-- a book before a call and after it, with the ledger over its entries as the call found it and left it
pub record IsEntered (book book' : Book) (old new : Ledger) : Type 0 where
  pub written_lent : book.written ≡ old.written.now
  pub entries_lent : book.entries.now ≡ old.memory.now
  pub written_left : book'.written ≡ new.written.now
  pub entries_left : book'.entries.now ≡ new.memory.now
  pub point : book'.point ≡ book.point
  pub months : book'.months ≡ book.months
  pub quarters : book'.quarters ≡ book.quarters
  pub hours : book'.hours ≡ book.hours
  pub lent : gone book'.entries ≡ gone book.entries
  pub memory : SameMemory book book'

module _ {book book' : Book} {old new : Ledger} (entered : IsEntered book book' old new) where
  -- the ledger refused
  pub unaltered_entered : new ≡ old → IsUnaltered book book'
  unaltered_entered same = record {
    point = entered.point;
    months = entered.months;
    written = entered.written_left ∙ ap (λ ledger. ledger.written.now) same ∙ sym entered.written_lent;
    quarters = entered.quarters;
    hours = entered.hours;
    entries = whole book.entries book'.entries entered.lent
        (entered.entries_left ∙ ap (λ ledger. ledger.memory.now) same ∙ sym entered.entries_lent);
  }

  pub view_entered : room_of new ≡ length book.entries.now → view book' ≡ record (view book) { ledger = entries_of new }
  view_entered room =
      let file = same_file book book' entered.months (ap now entered.quarters) (ap now entered.hours) in
      rw (file, entered.point, entered.written_left, entered.entries_left, room) refl

-- what a book of these parts keeps to
abbrev pub KeepsBook : MonthRecords → List Quarter → List Hour → ℕ → List Entry → Type 0
KeepsBook months quarters hours written entries = record {
  filed : Keeps months quarters hours;
  ledgered : IsLedger written entries;
  unbilled : IsUnbilled months quarters hours filed (take written entries);
}

-- it keeps to it with the slices that the store left
pub kept_left : (new : Store) {quarters : List Quarter} {hours : List Hour} → quarters ≡ new.quarters.now
    → hours ≡ new.hours.now → (written : ℕ) (entries : List Entry) → IsLedger written entries → Unbilled (months_of (filed new)) (take written entries)
    → KeepsBook new.months.now quarters hours written entries
kept_left new same_quarters same_hours written entries ledgered unbilled =
    rw (same_quarters, same_hours) (record { filed = new.kept; ledgered = ledgered; unbilled = unbilled })

-- and with the entries that the ledger left
module _ (new : Ledger) {entries : List Entry} (same : entries ≡ new.memory.now) where
  pub kept_entered : (book : Book) → Unbilled (view book).months (entries_of new)
      → KeepsBook book.months book.quarters.now book.hours.now new.written.now entries
  kept_entered book unbilled = rw same (record { filed = book.filed; ledgered = new.kept; unbilled = unbilled })

  pub kept_both : (store : Store) {quarters : List Quarter} {hours : List Hour} → quarters ≡ store.quarters.now
      → hours ≡ store.hours.now → Unbilled (months_of (filed store)) (entries_of new)
      → KeepsBook store.months.now quarters hours new.written.now entries
  kept_both store same_quarters same_hours unbilled =
      rw same (kept_left store same_quarters same_hours new.written.now new.memory.now new.kept unbilled)

-- an answer of the store or the ledger, as the call's
abbrev pub Answered : {X E : Type 0} → (E → Refusal) → Result X E → Result X Refusal → Type 0
Answered to result r = MatchResult result (λ x. r ≡ Ok x) (λ e. r ≡ Err (to e))

pub answered : {X E : Type 0} (to : E → Refusal) (P : E → Refusal → Type 0) (result : Result X E) (r : Result X Refusal)
    → MatchResult result (λ x. r ≡ Ok x) (λ e. IsErrAnd r (P e))
    → ((e : E) (refusal : Refusal) → P e refusal → refusal ≡ to e) → Answered to result r
answered to P (Ok x) r is made = is
answered to P (Err e) (Err refusal) is made = ap Err (made e refusal is)
answered to P (Err e) (Ok x) is made = elim is [ ]
