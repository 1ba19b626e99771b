-- What due and total answer of a billed month.
use Rattle.std.proofs.Common.{◌≡◌, ℕ, ◌+◌, ◌-◌, ◌<◌, true, false, cond, leb, List, length, get_or, ℤ, pos, is_some, Some, None, Ok, Err, Decides, Option, sym, refl, ap, ◌∙◌, inl, inr, arith}
use Rattle.std.proofs.lemmas.Bool.{and_from, both_ways, cases_Bool, cond-false, le-leb, not_from_true}
use Rattle.book.specs.Calls.{asks, whether_due, line_total}
use Rattle.book.specs.Steps.{answer, reply_unless}
use Rattle.book.specs.Table.{fault_in, is_fault}
use Rattle.book.specs.Views.{View, altered_line, amounts_in, month_outcome, sums_of}
use Rattle.ledger.specs.Entries.{first_differing, line_sum}
use Rattle.ledger.proofs.Sums.{first_differing_none, first_differing_some, get_or_sums, length_sums}
use Rattle.tariff.specs.Limits.{line_count}
use Rattle.tariff.specs.Pricing.{Meaning}
use Rattle.tariff.specs.declared.refusal.Refusal.TheVariants.{LinePastLimit}
use Rattle.audit.specs.States.{IsBilled}
use Rattle.audit.proofs.Priced.{amounts_line, length_amounts}
use Rattle.audit.proofs.Sound.{Sound, none_some}
use Rattle.audit.proofs.Table.{month_there}

-- a book with months was opened
opened : (meaning : Meaning) (v : View) (m : ℕ) → Sound meaning v → IsBilled m v → is_some v.point ≡ true
opened meaning v m sound billed =
    elim (cases_Bool (is_some v.point)) [
      | inl some ↦ some
      | inr none ↦
          let there = month_there m v billed.0 in
          let never : ⊥ = omega (arith, ap length (sound.empty none)) in
          elim never [ ]
    ]

module _ (meaning : Meaning) (v : View) (m : ℕ) (sound : Sound meaning v) (billed : IsBilled m v) where
  -- a fault is all that still refuses
  due_answer : answer meaning (asks (whether_due m)) v ≡ reply_unless (cond (is_fault (month_outcome meaning v m)) (Some (LinePastLimit m (fault_in (month_outcome meaning v m)))) None) (is_some (altered_line meaning v m))
  due_answer =
      ap (λ refusal. reply_unless refusal (is_some (altered_line meaning v m)))
      (cond-false _ _ _ (not_from_true _ (opened meaning v m sound billed))
      ∙ cond-false _ _ _ (not_from_true _ billed.0)
      ∙ cond-false _ _ _ (not_from_true _ billed.1))

  pub due_refuses : (fault : _) → month_outcome meaning v m ≡ Err fault
      → answer meaning (asks (whether_due m)) v ≡ Err (LinePastLimit m fault)
  due_refuses fault e = due_answer ∙ rw e refl

  pub due_answers : is_fault (month_outcome meaning v m) ≡ false
      → answer meaning (asks (whether_due m)) v ≡ Ok (is_some (altered_line meaning v m))
  due_answers e = due_answer ∙ rw e refl

  pub total_answers : (i : ℕ) → i < line_count
      → answer meaning (asks (line_total m (i + 1))) v ≡ Ok (line_sum v.ledger m (i + 1))
  total_answers i here =
      ap (λ refusal. reply_unless refusal (line_sum v.ledger m (i + 1)))
      (cond-false _ _ _ (not_from_true _ (opened meaning v m sound billed))
      ∙ cond-false _ _ _ (not_from_true _ billed.0)
      ∙ cond-false _ _ _ (not_from_true _ (and_from (leb 1 (i + 1)) (leb (i + 1) line_count) (le-leb 1 (i + 1) (omega arith)) (le-leb (i + 1) line_count (omega arith))))
      ∙ cond-false _ _ _ (not_from_true _ billed.1))

  -- a month that is answered not to be due can be priced, and its sums are the amounts
  pub not_due : answer meaning (asks (whether_due m)) v ≡ Ok false
      → amounts_in (month_outcome meaning v m) ≡ sums_of v m
  unfolding altered_line
  not_due e =
      elim (cases_Bool (is_fault (month_outcome meaning v m))) [
        | inl fault ↦ let refused : answer meaning (asks (whether_due m)) v ≡ Err (LinePastLimit m (fault_in (month_outcome meaning v m))) = due_answer ∙ rw fault refl in cc
        | inr prices ↦
            let is : is_some (altered_line meaning v m) ≡ false = cc (due_answers prices) in
            first_differing_none (amounts_in (month_outcome meaning v m)) (sums_of v m)
            (length_amounts (month_outcome meaning v m) prices ∙ sym (length_sums v.ledger m))
            (none_some (altered_line meaning v m) is)
      ]

some_is : {X : Type 0} (o : Option X) → is_some o ≡ true → (x : X) × (o ≡ Some x)
some_is (Some x) e = (x, refl)
some_is None e = elim (both_ways false refl e) [ ]

-- whether some line differs
differs : (n : ℕ) (amounts so_far : List ℤ) → length amounts ≡ n → length so_far ≡ n
    → Decides (is_some (first_differing amounts so_far)) ((i : ℕ) × (i < n) × (get_or amounts i (pos 0) ≡ get_or so_far i (pos 0) → ⊥))
differs n amounts so_far counted summed = (
  λ some.
      let found = some_is (first_differing amounts so_far) some in
      let line = first_differing_some amounts so_far found.0 found.1 in
      (found.0 - 1, omega (arith, line.0, line.1), line.2),
  λ other.
      elim (cases_Bool (is_some (first_differing amounts so_far))) [
        | inl some ↦ some
        | inr none ↦
            let same = first_differing_none amounts so_far (counted ∙ sym summed) (none_some (first_differing amounts so_far) none) in
            elim (other.2 (ap (λ xs. get_or xs other.0 (pos 0)) same)) [ ]
      ],
)

pub due_decides : (meaning : Meaning) (v : View) (m : ℕ) (then now : List ℤ)
    → month_outcome meaning v m ≡ Ok now
    → ((i : ℕ) → i < line_count → line_sum v.ledger m (i + 1) ≡ get_or then i (pos 0))
    → Decides (is_some (altered_line meaning v m)) ((i : ℕ) × (i < line_count) × (get_or now i (pos 0) ≡ get_or then i (pos 0) → ⊥))
unfolding altered_line
due_decides meaning v m then now e sums =
    let decided = differs line_count (amounts_in (month_outcome meaning v m)) (sums_of v m) (length_amounts (month_outcome meaning v m) (ap is_fault e)) (length_sums v.ledger m) in
    let amount : (i : ℕ) → i < line_count → get_or (amounts_in (month_outcome meaning v m)) i (pos 0) ≡ get_or now i (pos 0) = λ i here. amounts_line (month_outcome meaning v m) now i e here in
    let sum : (i : ℕ) → i < line_count → get_or (sums_of v m) i (pos 0) ≡ get_or then i (pos 0) = λ i here. get_or_sums v.ledger m i here ∙ sums i here in (
      λ some. let line = decided.0 some in (line.0, line.1, λ same. line.2 (amount line.0 line.1 ∙ same ∙ sym (sum line.0 line.1))),
      λ line. decided.1 (line.0, line.1, λ same. line.2 (sym (amount line.0 line.1) ∙ same ∙ sum line.0 line.1)),
    )
