use denote.MutBor.{now}
use Rattle.std.proofs.Common.{rules, ◌≡◌, ℕ, ◌+◌, false, not, leb, List, [], ◌∷◌, ◌++◌, length, is_some, Some, Ok, Err, Result, OnOk, OnErr, sym, refl, ap, ◌∙◌, inl, inr}
use Rattle.std.proofs.lemmas.Bool.{cases_Bool, cond-false, cond-true}
use Rattle.ledger.specs.declared.entry.Entry.{Entry}
use Rattle.store.specs.Months.{days_within, new_month}
use Rattle.store.specs.declared.store.Store.{Store}
use Rattle.store.specs.Stores.{capacity_of, earlier_peaks_of, filed, months_of, start_answer}
use Rattle.tariff.specs.Pricing.{Meaning}
use Rattle.tariff.specs.declared.refusal.Refusal.{Refusal}
use Rattle.tariff.specs.declared.refusal.Refusal.TheVariants.{NoMonthFree, DaysOutside}
use Rattle.book.specs.Books.{Performs, SameMemory, point_of, view}
use Rattle.book.specs.Calls.{starts}
use Rattle.book.specs.Table.{blank_book, row}
use Rattle.book.specs.declared.book.Book.{Book}
use Rattle.book.specs.declared.point.Point.{Point}
use Rattle.book.proofs.Exits.{is_refused, is_taken, first_holds, none_holds, pass}
use Rattle.book.proofs.Left.{IsStoreOf, SameReferences, kept_left, lent_file, unaltered_left, view_left}
use Rattle.book.specs.Unbilled.{Unbilled}
use Rattle.book.proofs.Unbilled.{unbilled_started}
use Rattle.book.proofs.book.Book.start.Goals as goal

-- a started month is not billed
unbilled_then : (entries : List Entry) (days : ℕ) (old new : Store) (r : Result ℕ Refusal)
    → OnOk r (months_of (filed new) ≡ months_of (filed old) ++ (new_month days ∷ [])) → OnErr r (new ≡ old)
    → Unbilled (months_of (filed old)) entries → Unbilled (months_of (filed new)) entries
unbilled_then entries days old new (Ok number) months refused before =
    rw months (unbilled_started (months_of (filed old)) entries before (new_month days))
unbilled_then entries days old new (Err refusal) months refused before = rw refused before

-- a store over what the book lends, with one month more than before, or as it was
module _ (book : Book) (days : ℕ) (old new : Store) (lent : IsStoreOf book old) (r : Result ℕ Refusal)
    (months : OnOk r (months_of (filed new) ≡ months_of (filed old) ++ (new_month days ∷ [])))
    (refused : OnErr r (new ≡ old)) where
  unbilled_still : Unbilled (months_of (filed new)) (view book).ledger
  unbilled_still = unbilled_then (view book).ledger days old new r months refused (rw (sym (lent_file lent)) book.unbilled)

  module _ (meaning : Meaning) (book' : Book) (left : IsStoreOf book' new) (point : Point) (opened : book.point ≡ Some point)
      (is : r ≡ start_answer (capacity_of (filed old)) (length (months_of (filed old))) days)
      (same : book'.point ≡ book.point) (written : book'.written ≡ book.written)
      (entries : book'.entries ≡ book.entries) (behind : SameReferences book book')
      (before : earlier_peaks_of (filed new) ≡ earlier_peaks_of (filed old))
      (capacity : capacity_of (filed new) ≡ capacity_of (filed old))
      (memory : SameMemory book book') where
    not_blank : (blank_book 0 (view book)).holds ≡ false
    not_blank = ap (λ p. not (is_some (point_of p))) opened

    performs : Performs meaning (starts days) book r book'
    performs =
        let v = view book in
        let file = sym (lent_file lent) in
        let answered : r ≡ start_answer v.capacity (length v.months) days = rw file at is in
        let kept = unaltered_left book left lent same written entries behind in
        let seen = view_left book left (ap now entries) refl (lent_file lent) capacity in
        let rest = row (not (days_within days)) DaysOutside in
        elim (cases_Bool (leb v.capacity (length v.months))) [
          | inl none ↦
              let err : r ≡ Err NoMonthFree = answered ∙ cond-true _ _ _ none in
              rw err (is_refused meaning (starts days) book book' NoMonthFree (pass (blank_book 0 v) (row (leb v.capacity (length v.months)) NoMonthFree ∷ rest ∷ []) _ not_blank (cond-true _ _ _ none)) (kept (rw err at refused)) memory)
          | inr some ↦
              let rows = blank_book 0 v ∷ row (leb v.capacity (length v.months)) NoMonthFree ∷ [] in
              elim (cases_Bool (not (days_within days))) [
                | inl outside ↦
                    let err : r ≡ Err DaysOutside = answered ∙ cond-false _ _ _ some ∙ cond-true _ _ _ outside in
                    rw err (is_refused meaning (starts days) book book' DaysOutside (first_holds rows rest [] (not_blank, (some, tt)) outside) (kept (rw err at refused)) memory)
                | inr within ↦
                    let ok : r ≡ Ok (length v.months + 1) = answered ∙ cond-false _ _ _ some ∙ cond-false _ _ _ within in
                    let made : months_of (filed new) ≡ v.months ++ (new_month days ∷ []) = (rw ok at months) ∙ ap (λ file. months_of file ++ (new_month days ∷ [])) file in
                    rw ok
                    (is_taken meaning (starts days) book book' (length v.months + 1) (none_holds (blank_book 0 v ∷ row (leb v.capacity (length v.months)) NoMonthFree ∷ rest ∷ []) (not_blank, (some, (within, tt)))) refl
                    (seen ∙ (rw (same, written, before, file, made) refl)) memory)
              ]
        ]

pub invariant_of-self : goal.invariant_of-self
invariant_of-self c =
    let book = c.args.self.now in
    let memory = c.start.ensures.memory in
    kept_left c.start.new.self (search (rules, memory)) (search (rules, memory)) _ _ book.ledgered
    (unbilled_still book c.args.days _ c.start.new.self (search rules) c.start.result c.start.ensures.months c.start.ensures.refused)

pub returns : goal.returns
returns c meaning =
    let ensures = c.start.ensures in
    let memory = ensures.memory in
    performs c.args.self.now c.args.days _ c.start.new.self (search rules) c.start.result ensures.months ensures.refused meaning _ (search (rules, memory)) c.in_ok-open_point.field-0 c.in_ok-open_point.ensures ensures.result refl refl refl (search rules) ensures.before ensures.capacity (search rules)
