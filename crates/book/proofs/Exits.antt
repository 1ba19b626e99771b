-- How a call ends: refused by a row, or taken.
use Rattle.std.proofs.Common.{rules, ◌≡◌, ℕ, ◌+◌, ◌<◌, ◌≤◌, Bool, true, false, not, List, [], ◌∷◌, ◌++◌, is_some, IsErrAnd, Some, None, Ok, Err, Option, Result, sym, refl, ap, ◌∙◌, arith}
use Rattle.std.specs.List.{AllByRecursion}
use denote.MutBor.{now}
use Rattle.std.proofs.lemmas.Result.{err_from_is_err_and}
use Rattle.std.proofs.lemmas.Bool.{and_parts, cond-true, cond-false, le-ltb, leb-true, lt-ltb}
use Rattle.store.specs.Months.{first_short_month, has_reached}
use Rattle.store.specs.declared.month.State.{State}
use Rattle.tariff.specs.Pricing.{Meaning}
use Rattle.tariff.specs.declared.refusal.Refusal.{Refusal}
use Rattle.tariff.specs.declared.refusal.Refusal.TheVariants.{EarlierMonth}
use Rattle.store.proofs.Kept.{filed_from}
use Rattle.book.specs.Books.{IsUnaltered, Performs, SameMemory, file_of, view}
use Rattle.book.specs.Calls.{Call, Reply}
use Rattle.book.specs.NamedMonths.{IsInBook, IsChangeable}
use Rattle.book.specs.Steps.{view_after, answer, reply_unless, reply, view_unless}
use Rattle.book.specs.Table.{Row, blank_book, earlier_month, first_holding, month_final, no_such_month, refusal_of}
use Rattle.book.specs.Views.{View, month_has_reached, month_index}
use Rattle.book.specs.declared.book.Book.{Book}
use Rattle.book.specs.declared.book.NamedMonth.{NamedMonth}

-- a row that does not hold is passed over, one that does refuses
pub pass : (row : Row) (rows : List Row) (o : Option Refusal) → row.holds ≡ false → first_holding rows ≡ o
    → first_holding (row ∷ rows) ≡ o
pass row rows o out rest = cond-false row.holds (Some row.refusal) (first_holding rows) out ∙ rest

pub here : (row : Row) (rows : List Row) → row.holds ≡ true → first_holding (row ∷ rows) ≡ Some row.refusal
here row rows held = cond-true row.holds (Some row.refusal) (first_holding rows) held

-- no row holds, or one after others that do not
pub none_holds : (rows : List Row) → AllByRecursion (λ row. row.holds ≡ false) rows
    → first_holding rows ≡ None
none_holds [] all = refl
none_holds (row ∷ rows) all = pass row rows None all.0 (none_holds rows all.1)

pub first_holds : (before : List Row) (held : Row) (after : List Row)
    → AllByRecursion (λ row. row.holds ≡ false) before → held.holds ≡ true
    → first_holding (before ++ held ∷ after) ≡ Some held.refusal
first_holds [] held after all is = here held after is
first_holds (row ∷ before) held after all is = pass row (before ++ held ∷ after) _ all.0 (first_holds before held after all.1 is)

pub unaltered : (book : Book) → IsUnaltered book book
unaltered book = search rules

-- the same records and the same memory are the same months
pub same_file : (book book' : Book) → book'.months ≡ book.months → book'.quarters.now ≡ book.quarters.now
    → book'.hours.now ≡ book.hours.now → file_of book' ≡ file_of book
same_file book book' months quarters hours = filed_from book'.filed months quarters hours book.filed

-- a book that nothing altered holds what it held
pub unaltered_view : (book book' : Book) → IsUnaltered book book' → view book' ≡ view book
unaltered_view book book' same =
    let file = same_file book book' same.months (ap now same.quarters) (ap now same.hours) in
    rw (file, same.point, same.written, ap now same.entries) refl

pub same_memory : (book : Book) → SameMemory book book
same_memory book = record { quarters = refl; hours = refl; entries = refl }

module _ (meaning : Meaning) (call : Call) (book book' : Book) where
  pub is_refused : (refusal : Refusal) → refusal_of meaning call (view book) ≡ Some refusal
      → IsUnaltered book book' → SameMemory book book' → Performs meaning call book (Err refusal) book'
  is_refused refusal by same memory = record {
    answers = sym (ap (λ o. reply_unless o (reply meaning call (view book))) by);
    leaves = unaltered_view book book' same ∙ sym (ap (λ o. view_unless o (view_after meaning call (view book)) (view book)) by);
    keeps = same;
    memory = memory;
  }

  pub is_taken : (r : Reply call) → refusal_of meaning call (view book) ≡ None
      → r ≡ reply meaning call (view book) → view book' ≡ view_after meaning call (view book)
      → SameMemory book book' → Performs meaning call book (Ok r) book'
  is_taken r by replied made memory = record {
    answers = ap Ok replied ∙ sym (ap (λ o. reply_unless o (reply meaning call (view book))) by);
    leaves = made ∙ sym (ap (λ o. view_unless o (view_after meaning call (view book)) (view book)) by);
    keeps = tt;
    memory = memory;
  }

-- the exit of a `?`, before anything was altered
module _ (meaning : Meaning) (call : Call) (book : Book) (r : Result (Reply call) Refusal) (refusal : Refusal)
    (is : IsErrAnd r (λ e. e ≡ refusal)) where
  pub is_refused_by : refusal_of meaning call (view book) ≡ Some refusal → Performs meaning call book r book
  is_refused_by by =
      let p = err_from_is_err_and r is in
      rw p.1 (is_refused meaning call book book p.0 (by ∙ ap Some (sym p.2)) (unaltered book) (same_memory book))

-- a month that was found passes the rows that every call with a month begins with
module _ (m : ℕ) (v : View) (found : NamedMonth) where
  pub in_book_passes : IsInBook m v found → (rows : List Row)
      → first_holding (blank_book m v ∷ no_such_month m v ∷ rows) ≡ first_holding rows
  in_book_passes is rows =
      pass (blank_book m v) (no_such_month m v ∷ rows) _ (ap (λ point. not (is_some point)) is.point) (pass (no_such_month m v) rows _ (ap not is.started) refl)

  pub not_final_passes : IsChangeable m v found → (rows : List Row)
      → first_holding (blank_book m v ∷ no_such_month m v ∷ month_final m v ∷ rows) ≡ first_holding rows
  not_final_passes is rows = in_book_passes is.0 (month_final m v ∷ rows) ∙ pass (month_final m v) rows _ is.1 refl

-- a call that changes nothing
module _ (meaning : Meaning) (call : Call) (book : Book) where
  pub answers_refused : (r : Result (Reply call) Refusal) (refusal : Refusal) → IsErrAnd r (λ e. e ≡ refusal)
      → refusal_of meaning call (view book) ≡ Some refusal → r ≡ answer meaning call (view book)
  answers_refused r refusal is by = (is_refused_by meaning call book r refusal is by).answers

  pub answers_taken : (r : Reply call) → refusal_of meaning call (view book) ≡ None
      → r ≡ reply meaning call (view book) → Ok r ≡ answer meaning call (view book)
  answers_taken r by replied = ap Ok replied ∙ sym (ap (λ o. reply_unless o (reply meaning call (view book))) by)

-- entries have the month's number, its place and one
pub numbered : (m : ℕ) (v : View) (found : NamedMonth) → IsInBook m v found → found.number ≡ found.index + 1
numbered m v found is = omega (arith, is.number, is.index, leb-true 1 m (and_parts _ _ is.started).0)

-- the state that a call found the month in
module _ (m : ℕ) (v : View) (found : NamedMonth) (is : IsInBook m v found) (state : State) (reached : Bool)
    (test : reached ≡ has_reached state found.state) where
  pub found_state : month_has_reached state m v ≡ reached
  found_state = ap (has_reached state) (sym is.state) ∙ sym test

-- what refuses the month that was found refuses the one that the caller named
pub short_named : (m : ℕ) (v : View) (found : NamedMonth) → IsInBook m v found
    → (state : State) (refusal : Refusal)
    → ((earlier_month state found.month v).holds ≡ true) × (refusal ≡ (earlier_month state found.month v).refusal)
    → ((earlier_month state m v).holds ≡ true) × (refusal ≡ (earlier_month state m v).refusal)
short_named m v found is state refusal short = rw is.month at short

-- the lowest of the earlier months that is short of a state
module _ (m : ℕ) (v : View) (found : NamedMonth) (is : IsInBook m v found) (state : State) (short : ℕ)
    (counted : short ≡ first_short_month state v.months found.index) where
  same_short : short ≡ first_short_month state v.months (month_index m)
  same_short = counted ∙ ap (first_short_month state v.months) is.index

  pub none_short : found.index ≤ short → (earlier_month state m v).holds ≡ false
  none_short all = le-ltb (first_short_month state v.months (month_index m)) (month_index m) (omega (arith, same_short, is.index))

  pub one_short : short < found.index
      → ((earlier_month state m v).holds ≡ true) × (EarlierMonth m (short + 1) ≡ (earlier_month state m v).refusal)
  one_short less = (lt-ltb (first_short_month state v.months (month_index m)) (month_index m) (omega (arith, same_short, is.index)), ap (λ n. EarlierMonth m (n + 1)) same_short)
