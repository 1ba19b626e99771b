-- What a book in memory holds, and what a call makes of it.
use Rattle.std.specs.Prelude.{◌≡◌, ℕ, ◌<◌, List, length, take, OnErr, Some, None, Option, Result, slice_get}
use Rattle.std.specs.Borrow.{MutBor}
use Rattle.ledger.specs.declared.entry.Entry.{Entry}
use Rattle.store.specs.Stores.{Filed, Stands, capacity_of, earlier_peaks_of, filed_as, months_of}
use Rattle.store.specs.declared.memory.Hour.{Hour}
use Rattle.store.specs.declared.memory.Quarter.{Quarter}
use Rattle.tariff.specs.Pricing.{Meaning}
use Rattle.tariff.specs.declared.refusal.Refusal.{Refusal}
use Rattle.book.specs.Calls.{Call, Reply}
use Rattle.book.specs.Steps.{answer, step}
use Rattle.book.specs.PointCodes.{code_bytes}
use Rattle.book.specs.Views.{BilledPoint, View}
use Rattle.book.specs.declared.book.Book.{Book}
use Rattle.book.specs.declared.point.Point.{Point}

abbrev pub point_of : Option Point → Option BilledPoint
point_of (Some point) = Some (record {
  code = code_bytes point.code;
  contract = point.capacities.contract;
  substation = point.capacities.substation;
})
point_of None = None

-- its months, with what stands in the lent memory for them
abbrev pub file_of : Book → Filed
file_of book = filed_as book.months book.quarters.now book.hours.now book.filed

abbrev pub view : Book → View
view book = record {
  point = point_of book.point;
  before = earlier_peaks_of (file_of book);
  months = months_of (file_of book);
  ledger = take book.written book.entries.now;
  capacity = capacity_of (file_of book);
  room = length book.entries.now;
}

-- a book whose memory is behind these references
pub record IsLent (lent_quarters : MutBor (List Quarter)) (lent_hours : MutBor (List Hour))
    (lent_entries : MutBor (List Entry)) (book : Book) : Type 0 where
  pub quarters : book.quarters.ghost_name ≡ lent_quarters.ghost_name
  pub hours : book.hours.ghost_name ≡ lent_hours.ghost_name
  pub entries : book.entries.ghost_name ≡ lent_entries.ghost_name

-- a book that has left the memory behind these references as it was
pub record LeavesMemory (lent_quarters : List Quarter) (lent_hours : List Hour) (lent_entries : List Entry)
    (book : Book) : Type 0 where
  pub quarters : book.quarters.now ≡ lent_quarters
  pub hours : book.hours.now ≡ lent_hours
  pub entries : book.entries.now ≡ lent_entries

-- the same lent memory, behind the same references, before and after
pub record SameMemory (book book' : Book) : Type 0 where
  pub quarters : book'.quarters.ghost_name ≡ book.quarters.ghost_name
  pub hours : book'.hours.ghost_name ≡ book.hours.ghost_name
  pub entries : book'.entries.ghost_name ≡ book.entries.ghost_name

-- the same point, months and entries, with every record of the lent memory, behind the same references
pub record IsUnaltered (book book' : Book) : Type 0 where
  pub point : book'.point ≡ book.point
  pub months : book'.months ≡ book.months
  pub written : book'.written ≡ book.written
  pub quarters : book'.quarters ≡ book.quarters
  pub hours : book'.hours ≡ book.hours
  pub entries : book'.entries ≡ book.entries

-- where what a book holds stands in its memory: the record of quarter q of month m, from 1, at
-- 2,976 × (m - 1) + q, that of hour h at 744 × (m - 1) + h, entry i at i, each with just what the book holds
pub record StandsIn (book : Book) : Type 0 where
  pub months : Stands (file_of book)
  pub entries : (i : ℕ) → i < length (view book).ledger
      → slice_get book.entries.now i ≡ slice_get (view book).ledger i

-- what a call that changes nothing answers
abbrev pub Answers : Meaning → (call : Call) → Book → Result (Reply call) Refusal → Type 0
Answers meaning call book r = r ≡ answer meaning call (view book)

-- a call that a book took or refused: its answer, what the book holds after it, in the same memory, and that a
-- refusal leaves the book and every record of its memory as they were
pub record Performs (meaning : Meaning) (call : Call) (book : Book)
    (r : Result (Reply call) Refusal) (book' : Book) : Type 0 where
  pub answers : r ≡ answer meaning call (view book)
  pub leaves : view book' ≡ step meaning call (view book)
  pub keeps : OnErr r (IsUnaltered book book')
  pub memory : SameMemory book book'
