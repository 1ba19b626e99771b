-- The promise over every run, put together from its laws.
use Rattle.std.proofs.Common.{◌≡◌, ℕ, ◌+◌, ◌<◌, ◌≤◌, true, false, List, [], ◌∷◌, ◌++◌, length, get_or, ℤ, pos, is_some, Ok, sym, refl, ap, ◌∙◌, arith}
use Rattle.book.specs.Calls.{Call, asks, whether_due}
use Rattle.book.specs.Steps.{answer, step, view_after}
use Rattle.book.specs.Table.{is_fault}
use Rattle.book.specs.Views.{View, amounts_in, month_has_reached, is_month, month_at, month_outcome}
use Rattle.ledger.specs.Entries.{line_sum}
use Rattle.ledger.proofs.Sums.{get_or_sums}
use Rattle.store.specs.declared.month.State.TheVariants.{Billed, Final}
use Rattle.store.specs.declared.month.State.{State}
use Rattle.tariff.specs.Limits.{line_count}
use Rattle.tariff.specs.Pricing.{Meaning}
use Rattle.tariff.specs.declared.facts.PlainFacts.{PlainFacts}
use Rattle.tariff.specs.declared.hours.HourRow.{HourRow}
use Rattle.audit.specs.Laws.{Agree, IsLatestPricing, Promise, Run, new_book, book_after, with_calls}
use Rattle.audit.specs.Runs.{view_after_calls}
use Rattle.audit.specs.States.{IsBilled, IsFinal}
use Rattle.audit.proofs.Added.{grown, run_length}
use Rattle.audit.proofs.Answered.{due_answers, due_decides, due_refuses, not_due, total_answers}
use Rattle.audit.proofs.Entries.{run_ledger}
use Rattle.audit.proofs.Files.{agreed}
use Rattle.audit.proofs.Months.{final_billed}
use Rattle.audit.proofs.OnFile.{on_file}
use Rattle.audit.proofs.Priced.{latest_sums, priced_once}
use Rattle.audit.proofs.Sound.{Kept, Sound, begun_sound, reached_sound, runs_kept}
use Rattle.audit.proofs.States.{has_states, is_billed, is_final, run_stays, takes_once}
use Rattle.audit.proofs.Table.{by_step, month_there}

latest : (meaning : Meaning) (run : Run) (m : ℕ) → IsBilled m (book_after meaning run)
    → (cents : List ℤ) × IsLatestPricing meaning run.calls (new_book run) m cents
latest meaning run m billed =
    priced_once meaning run.calls m (new_book run) (begun_sound meaning run)
    (((has_states meaning run).billed m (month_there m (book_after meaning run) billed.0).0).0 billed)

-- a line of a month that is not due is what the month is priced at now
current : (meaning : Meaning) (v : View) (m : ℕ) → Sound meaning v → IsBilled m v
    → answer meaning (asks (whether_due m)) v ≡ Ok false → (i : ℕ) → i < line_count
    → line_sum v.ledger m (i + 1) ≡ get_or (amounts_in (month_outcome meaning v m)) i (pos 0)
current meaning v m sound billed answers i here =
    sym (get_or_sums v.ledger m i here) ∙ ap (λ xs. get_or xs i (pos 0)) (sym (not_due meaning v m sound billed answers))

-- as many readings are those of as many days
same_days : (meaning other : Meaning) (v w : View) (m n : ℕ) → Sound meaning v → Sound other w → 1 ≤ m → 1 ≤ n
    → (month_at m v).readings ≡ (month_at n w).readings → (month_at m v).days ≡ (month_at n w).days
same_days meaning other v w m n one two low some same =
    omega (arith, (one.shaped m low).0, (two.shaped n some).0, ap length same)

alike : (meaning other : Meaning)
    → ((facts : PlainFacts) (hours : List HourRow) → meaning facts hours ≡ other facts hours)
    → (v w : View) (m n : ℕ) → Sound meaning v → Sound other w → IsBilled m v → IsBilled n w → Agree v m w n
    → answer meaning (asks (whether_due m)) v ≡ Ok false → answer other (asks (whether_due n)) w ≡ Ok false
    → (i : ℕ) → i < line_count → line_sum v.ledger m (i + 1) ≡ line_sum w.ledger n (i + 1)
alike meaning other same v w m n one two billed billed' agree answers answers' i here =
    let days = same_days meaning other v w m n one two (month_there m v billed.0).0 (month_there n w billed'.0).0 agree.readings in
    current meaning v m one billed answers i here
    ∙ ap (λ outcome. get_or (amounts_in outcome) i (pos 0)) (agreed v m w n agree days meaning other same)
    ∙ sym (current other w n two billed' answers' i here)

-- calls that go on
calls_more : (meaning : Meaning) (calls more : List Call) (v : View)
    → view_after_calls meaning (calls ++ more) v ≡ view_after_calls meaning more (view_after_calls meaning calls v)
calls_more meaning [] more v = refl
calls_more meaning (call ∷ calls) more v = calls_more meaning calls more (step meaning call v)

-- a book whose run goes on
kept_on : (meaning : Meaning) (run : Run) (more : List Call)
    → Kept meaning (book_after meaning run) (book_after meaning (with_calls run more))
kept_on meaning run more =
    rw (calls_more meaning run.calls more (new_book run)) (runs_kept meaning more (book_after meaning run) (reached_sound meaning run))

final : (meaning : Meaning) (v w : View) (m : ℕ) → IsFinal m v → Kept meaning v w
    → (answer meaning (asks (whether_due m)) w ≡ Ok false) × ((l : ℕ) → line_sum w.ledger m l ≡ line_sum v.ledger m l)
final meaning v w m is kept =
    let low : 1 ≤ m = (month_there m v is.0).0 in
    let still = kept.final m low is.1 in
    let billed : month_has_reached Billed m w ≡ true = final_billed (month_at m w).state still.0 in
    let settled = kept.sound.settled m low still.0 in
    (due_answers meaning w m kept.sound (is_billed m w low billed) settled.prices ∙ ap (λ line. Ok (is_some line)) settled.current, still.1)

lasting : (meaning : Meaning) (v : View) (more : List Call) (m : ℕ)
    → (IsBilled m v → IsBilled m (view_after_calls meaning more v)) × (IsFinal m v → IsFinal m (view_after_calls meaning more v))
lasting meaning v more m =
    let stays = λ (state : State) (is : is_month m v ≡ true). run_stays meaning state m (month_there m v is).0 more v in (
      λ billed. is_billed m (view_after_calls meaning more v) (month_there m v billed.0).0 (stays Billed billed.0 billed.1),
      λ final. is_final m (view_after_calls meaning more v) (month_there m v final.0).0 (stays Final final.0 final.1),
    )

-- no call alters how much the memory holds
abbrev SameMemory : View → View → Type 0
SameMemory v w = (w.capacity ≡ v.capacity) × (w.room ≡ v.room)

memory_after : (meaning : Meaning) (call : Call) (v : View) → SameMemory v (view_after meaning call v)
memory_after meaning (asks question) v = (refl, refl)
memory_after meaning _ v = (refl, refl)

run_memory : (meaning : Meaning) (calls : List Call) (v : View) → SameMemory v (view_after_calls meaning calls v)
run_memory meaning [] v = (refl, refl)
run_memory meaning (call ∷ calls) v =
    let now = by_step meaning call v (λ w taken. SameMemory v w) (refl, refl) (λ e. memory_after meaning call v) in
    let later = run_memory meaning calls (step meaning call v) in
    (later.0 ∙ now.0, later.1 ∙ now.1)

-- src/lib.rt:6:1
pub promised : (meaning : Meaning) → Promise meaning
promised meaning = record {
  ledger = λ run. run_ledger meaning run.calls (new_book run);
  sums = λ run m billed.
      let found = latest meaning run m billed in (
        found.0,
        found.1,
        λ i here.
            let sum = latest_sums meaning run.calls m (new_book run) (begun_sound meaning run) found.0 found.1 i here in
            (sum, total_answers meaning (book_after meaning run) m (reached_sound meaning run) billed i here ∙ ap (λ x. Ok x) sum),
      );
  due = λ run m billed then now latest prices. (
    _,
    due_answers meaning (book_after meaning run) m (reached_sound meaning run) billed (ap is_fault prices),
    due_decides meaning (book_after meaning run) m then now prices (latest_sums meaning run.calls m (new_book run) (begun_sound meaning run) then latest),
  );
  refuses = λ run m billed. due_refuses meaning (book_after meaning run) m (reached_sound meaning run) billed;
  alike = λ other same run run' m n.
      alike meaning other same (book_after meaning run) (book_after other run') m n (reached_sound meaning run) (reached_sound other run');
  final = λ run m is more.
      final meaning (book_after meaning run) (book_after meaning (with_calls run more)) m is (kept_on meaning run more);
  entries = λ run call.
      let now = grown meaning call (book_after meaning run) in
      (now.entries, rw (calls_more meaning run.calls (call ∷ []) (new_book run)) now.behind, now.adds);
  counted = λ run. let all = run_length meaning run.calls (new_book run) in omega (arith, all);
  on_file = on_file meaning;
  states = has_states meaning;
  lasting = λ run more m. rw (calls_more meaning run.calls more (new_book run)) (lasting meaning (book_after meaning run) more m);
  closed = λ run. takes_once meaning (book_after meaning run);
  memory = λ run. run_memory meaning run.calls (new_book run);
}
