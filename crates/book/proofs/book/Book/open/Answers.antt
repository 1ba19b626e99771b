use Rattle.std.proofs.Common.{rules, ◌≡◌, ℕ, true, false, not, List, [], ◌∷◌, is_some, IsErrAnd, Some, Ok, Err, Result, sym, refl, ap, ◌∙◌}
use Rattle.std.proofs.lemmas.Bool.{and_parts, false_from_ne_true, le-leb, leb-true, true≢false}
use Rattle.std.proofs.lemmas.Result.{err_from_is_err_and}
use Rattle.std.specs.Cmp.Derive.{both_true}
use Rattle.store.specs.Months.{Month, can_carry, earlier_peaks}
use Rattle.store.specs.Stores.{Filed, capacity_of, earlier_peaks_of, filed, months_of}
use Rattle.store.specs.declared.store.Store.{Store}
use Rattle.tariff.specs.Limits.{CapacitiesWithin}
use Rattle.tariff.specs.Pricing.{Meaning}
use Rattle.tariff.specs.declared.refusal.Refusal.{Refusal}
use Rattle.tariff.specs.declared.refusal.Refusal.TheVariants.{BookOpen, OpeningOutside}
use Rattle.book.specs.Books.{IsUnaltered, Performs, SameMemory, file_of, point_of, view}
use Rattle.book.specs.Calls.{opens}
use Rattle.book.specs.PointCodes.{code_bytes}
use Rattle.book.specs.Table.{opening_within, row}
use Rattle.book.specs.declared.book.Book.{Book}
use Rattle.book.proofs.Exits.{here, is_refused, is_taken, none_holds, pass}
use Rattle.book.proofs.Left.{IsStoreOf, filed_alike, kept_left, unaltered_left, view_left}
use Rattle.book.specs.Unbilled.{Unbilled}
use Rattle.book.proofs.book.Book.open.Goals as goal

-- what is opened is within its limits where its capacities are and its peaks can be carried
module _ (contract substation : ℕ) (carried : List ℕ) where
  within_parts : opening_within contract substation carried ≡ true
      → CapacitiesWithin contract substation × (can_carry carried ≡ true)
  within_parts within =
      let parts = and_parts _ _ within in
      let more = and_parts _ _ parts.1 in
      let last = and_parts _ _ more.1 in
      ((leb-true 1 contract parts.0, leb-true contract substation more.0, leb-true substation _ last.0), last.1)

  is_within : CapacitiesWithin contract substation → can_carry carried ≡ true
      → opening_within contract substation carried ≡ true
  is_within capacities carries =
      both_true (le-leb 1 contract capacities.0) (both_true (le-leb contract substation capacities.1) (both_true (le-leb substation _ capacities.2) carries))

  module _ (meaning : Meaning) (code : List ℕ) (book book' : Book) where
    opened : is_some (point_of book.point) ≡ true → IsUnaltered book book' → SameMemory book book'
        → Performs meaning (opens code contract substation carried) book (Err BookOpen) book'
    opened is same memory =
        is_refused meaning (opens code contract substation carried) book book' BookOpen (here (row _ BookOpen) (row _ OpeningOutside ∷ []) is) same memory

    module _ (blank : is_some (point_of book.point) ≡ false) where
      outside : (r : Result (Unit {0}) Refusal) (refusal : Refusal) → IsErrAnd r (λ e. e ≡ refusal) → refusal ≡ OpeningOutside
          → (CapacitiesWithin contract substation × (can_carry carried ≡ true) → ⊥)
          → IsUnaltered book book' → SameMemory book book'
          → Performs meaning (opens code contract substation carried) book r book'
      outside r refusal is why not_within same memory =
          let err = err_from_is_err_and r is in
          let out = false_from_ne_true _ (λ within. not_within (within_parts within)) in
          rw (err.1, err.2, why)
          (is_refused meaning (opens code contract substation carried) book book' OpeningOutside
          (pass (row _ BookOpen) (row _ OpeningOutside ∷ []) _ blank (here (row _ OpeningOutside) [] (ap not out))) same memory)

      within : CapacitiesWithin contract substation → can_carry carried ≡ true → SameMemory book book'
          → (file : Filed) → file_of book ≡ file → (new : Store) → IsStoreOf book' new → book'.written ≡ book.written
          → book'.entries.now ≡ book.entries.now
          → point_of book'.point ≡ Some (record { code = code; contract = contract; substation = substation })
          → earlier_peaks_of (filed new) ≡ earlier_peaks carried → months_of (filed new) ≡ months_of file
          → capacity_of (filed new) ≡ capacity_of file
          → Performs meaning (opens code contract substation carried) book (Ok tt) book'
      within capacities carries memory file lent new left written entries point before months capacity =
          let seen = view_left book left entries refl lent capacity in
          is_taken meaning (opens code contract substation carried) book book' tt
          (none_holds (row _ BookOpen ∷ row _ OpeningOutside ∷ []) (blank, (ap not (is_within capacities carries), tt))) refl
          (seen ∙ (rw (point, written, before, months, lent) refl)) memory

-- a call that alters no month's state lets no entry count that did not
unbilled_kept : (book : Book) (months : List Month) → months ≡ months_of (file_of book)
    → Unbilled months (view book).ledger
unbilled_kept book months same = rw same book.unbilled

pub invariant_of-self : goal.invariant_of-self
invariant_of-self c =
    let book = c.args.self.now in record { filed = book.filed; ledgered = book.ledgered; unbilled = book.unbilled }

pub returns-then-is_some : goal.returns-then-is_some
returns-then-is_some c meaning =
    opened c.args.contract c.args.substation c.args.carried.now meaning (code_bytes c.args.code) c.args.self.now _ (search (rules, c.is_some.ensures, c.if-is_some.true)) (search rules) (search rules)

pub returns-in_err-capacities : goal.returns-in_err-capacities
returns-in_err-capacities c meaning =
    let none = c.in_err-capacities.ensures.ok_part in
    outside c.args.contract c.args.substation c.args.carried.now meaning (code_bytes c.args.code) c.args.self.now _ (search (rules, c.is_some.ensures, c.if-is_some.false)) c.from_residual.result c.in_err-capacities.field-0.0 c.from_residual.ensures.1 (let value = rw none at c.in_err-capacities.ensures.value in cc) (λ parts. (rw none at c.new.ensures) parts.0) (search rules) (search rules)

pub invariant_of-self-in-Break-branch-2 : goal.invariant_of-self-in-Break-branch-2
invariant_of-self-in-Break-branch-2 c =
    let book = c.args.self.now in
    let memory = c.carry.ensures.memory in
    kept_left c.carry.new.self (search (rules, memory)) (search (rules, memory)) _ _ book.ledgered (unbilled_kept book _ (c.carry.ensures.months ∙ ap months_of (sym (filed_alike book _))))

pub returns-in_err-carry : goal.returns-in_err-carry
returns-in_err-carry c meaning =
    let ensures = c.in_err-carry.ensures in
    let memory = ensures.memory in
    outside c.args.contract c.args.substation c.args.carried.now meaning (code_bytes c.args.code) c.args.self.now _ (search (rules, c.is_some.ensures, c.if-is_some.false)) c.from_residual-in_err-carry.result OpeningOutside c.from_residual-in_err-carry.ensures.1 refl (λ parts. true≢false (sym parts.1 ∙ sym ensures.result)) (unaltered_left c.args.self.now {new = c.carry.new.self} (search (rules, memory)) (search rules) refl refl refl (search rules) ensures.refused) (search rules)

pub invariant_of-self-2 : goal.invariant_of-self-2
invariant_of-self-2 c =
    let book = c.args.self.now in
    let memory = c.carry.ensures.memory in
    kept_left c.carry.new.self (search (rules, memory)) (search (rules, memory)) _ _ book.ledgered (unbilled_kept book _ (c.carry.ensures.months ∙ ap months_of (sym (filed_alike book _))))

pub returns : goal.returns
returns c meaning =
    let ensures = c.in_ok-carry.ensures in
    let memory = ensures.memory in
    let capacities = c.in_ok-capacities.capacities in
    let same = rw c.in_ok-capacities.ensures.ok_part at c.new.ensures in
    within c.args.contract c.args.substation c.args.carried.now meaning (code_bytes c.args.code) c.args.self.now _ (search (rules, c.is_some.ensures, c.if-is_some.false))
    (rw (same.0, same.1) at capacities.within) (sym ensures.result) (search rules)
    _ (filed_alike c.args.self.now _) c.carry.new.self (search (rules, memory))
    refl refl (rw (same.0, same.1) refl) ensures.before ensures.months ensures.capacity
