-- What a post that the store took or refused leaves in the book.
use denote.MutBor.{now}
use Rattle.std.proofs.Common.{◌≡◌, ℕ, Bool, true, false, cond, not, ◌⊎◌, [], ◌∷◌, is_some, Some, None, Option, Ok, Err, Result, OnOk, OnErr, sym, refl, ap, ◌∙◌, inl, inr}
use Rattle.std.specs.Option.{unwrap_or}
use Rattle.std.specs.Result.{MatchResult}
use Rattle.std.proofs.lemmas.Bool.{true≢false}
use Rattle.store.specs.Months.{Month, has_reached}
use Rattle.store.specs.Stores.{Alters, filed, filed_as, month_in, months_of}
use Rattle.store.specs.Posts.{fault_answer, month_with_post}
use Rattle.store.specs.Records.{Keeps}
use Rattle.store.specs.declared.month.State.TheVariants.{Billed}
use Rattle.store.specs.declared.post.Post.{Post}
use Rattle.store.specs.declared.post.Post.TheVariants.{Reading as OfReading, Price as OfPrice, Scheduled as OfScheduled}
use Rattle.store.specs.declared.post.PostError.{PostError}
use Rattle.store.specs.declared.post.PostError.TheVariants.{NoSuchPlace as NotThere, OutsideLimit as Outside}
use Rattle.store.specs.declared.store.Store.{Store}
use Rattle.tariff.specs.Pricing.{Meaning}
use Rattle.tariff.specs.declared.refusal.Refusal.{Refusal}
use Rattle.tariff.specs.declared.refusal.Refusal.TheVariants.{NoSuchPlace, OtherPoint, OutsideLimit}
use Rattle.book.specs.Books.{Performs, SameMemory, file_of, view}
use Rattle.book.specs.Calls.{Call, Reply}
use Rattle.book.specs.Posts.{post_refusal}
use Rattle.book.specs.Steps.{reply, view_after, with_month}
use Rattle.book.specs.Table.{first_holding, refusal_of, row}
use Rattle.book.specs.Unbilled.{Unbilled}
use Rattle.book.specs.Views.{month_at, month_index}
use Rattle.book.specs.declared.book.Book.{Book}
use Rattle.book.proofs.Exits.{is_refused}
use Rattle.book.proofs.Left.{IsStoreOf, SameReferences, filed_alike, is_altered, lent_file, unaltered_left}
use Rattle.book.proofs.Unbilled.{unbilled_altered}

-- what a post leaves of the months that are not billed: it leaves a month's state
module _ (book : Book) (old new : Store) (lent : file_of book ≡ filed old) (k : ℕ) (alter : Month → Month)
    (same : (month : Month) → (alter month).state ≡ month.state) where
  pub unbilled_posted : {E : Type 0} (result : Result Unit E) → OnOk result (Alters k alter (filed old) (filed new))
      → OnErr result (new ≡ old) → Unbilled (months_of (filed new)) (view book).ledger
  unbilled_posted (Ok done) altered refused =
      rw (altered.months, sym lent)
      (unbilled_altered (view book).months k alter (λ month opened. sym (ap (has_reached Billed) (same month)) ∙ opened) (view book).ledger book.unbilled)
  unbilled_posted (Err error) altered refused = rw (refused, sym lent) book.unbilled

-- a post leaves a month's state
pub state_posted : (place : ℕ) (post : Post) (month : Month) → (month_with_post place post month).state ≡ month.state
state_posted place (OfReading reading) month = refl
state_posted place (OfPrice price) month = refl
state_posted place (OfScheduled kw) month = refl

-- the month that the store found is the one that the call names
pub month_found : (book : Book) (kept : Keeps book.months book.quarters.now book.hours.now) (m k : ℕ) → k ≡ month_index m
    → month_in (filed_as book.months book.quarters.now book.hours.now kept) k ≡ month_at m (view book)
month_found book kept m k is =
    ap (λ file. month_in file k) (sym (filed_alike book kept)) ∙ ap (month_in (file_of book)) is

-- what a post is refused by, as the store has it
abbrev pub refusal_in : ℕ → ℕ → Result Unit PostError → Option Refusal
refusal_in m place (Ok done) = None
refusal_in m place (Err error) = Some (post_refusal m place error)

pub post_rows_say : (m place : ℕ) (past outside : Bool)
    → first_holding (row past (NoSuchPlace m place) ∷ row outside (OutsideLimit m 0) ∷ [])
    ≡ refusal_in m place (cond past (Err NotThere) (cond outside (Err (Outside 0)) (Ok tt)))
post_rows_say m place true outside = refl
post_rows_say m place false true = refl
post_rows_say m place false false = refl

-- a day that is not there is told before the code
pub day_rows_say : (m day : ℕ) (past is_code : Bool) (fault : Option ℕ) → (past ≡ true) ⊎ (is_code ≡ true)
    → first_holding (row past (NoSuchPlace m day) ∷ row (not is_code) (OtherPoint m) ∷ row (is_some fault) (OutsideLimit m (unwrap_or fault 0)) ∷ [])
    ≡ refusal_in m day (cond past (Err NotThere) (fault_answer fault))
day_rows_say m day true is_code fault either = refl
day_rows_say m day false true (Some place) either = refl
day_rows_say m day false true None either = refl
day_rows_say m day false false fault (inl past) = absurd (true≢false (sym past))
day_rows_say m day false false fault (inr code) = absurd (true≢false (sym code))

-- a post as a call of the book
module _ (meaning : Meaning) (call : Call) {book book' : Book} {old new : Store} (lent : IsStoreOf book old)
    (left : IsStoreOf book' new) (memory : SameMemory book book')
    (point : book'.point ≡ book.point) (written : book'.written ≡ book.written)
    (entries : book'.entries ≡ book.entries) (behind : SameReferences book book') (m place : ℕ) (k : ℕ) (alter : Month → Month) where
  pub performs_post : (done : Reply call) (result : Result Unit PostError) (r : Result (Reply call) Refusal)
      → MatchResult result (λ _. r ≡ Ok done) (λ error. r ≡ Err (post_refusal m place error))
      → refusal_of meaning call (view book) ≡ refusal_in m place result
      → done ≡ reply meaning call (view book)
      → view_after meaning call (view book) ≡ with_month m alter (view book) → k ≡ month_index m
      → OnOk result (Alters k alter (filed old) (filed new)) → OnErr result (new ≡ old)
      → Performs meaning call book r book'
  performs_post done (Ok ok) r is by replied after found altered refused =
      rw is (is_altered book left (ap now entries) refl (lent_file lent) meaning call k alter altered point memory done by replied (rw (written, found) (sym after)))
  performs_post done (Err error) r is by replied after found altered refused =
      rw is (is_refused meaning call book book' (post_refusal m place error) by (unaltered_left book left lent point written entries behind refused) memory)
