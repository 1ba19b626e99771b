use Rattle.std.proofs.Common.{◌≡◌, ℕ, suc, ◌+◌, ◌-◌, List, [], ◌∷◌, length, MutBor, refl, ap, subst, ◌∙◌, arith}
use Rattle.book.specs.Books.{IsLent, LeavesMemory, SameMemory, view}
use Rattle.book.specs.Calls.{Call}
use Rattle.book.specs.Requests.{call_of}
use Rattle.book.specs.Views.{blank_view}
use Rattle.book.specs.declared.book.Book.{Book}
use Rattle.book.specs.declared.request.Answer.{Answer}
use Rattle.book.specs.declared.request.Answer.TheVariants.{Begun}
use Rattle.book.proofs.Exits.{same_memory}
use Rattle.ledger.specs.declared.entry.Entry.{Entry}
use Rattle.store.specs.Stores.{capacity}
use Rattle.store.specs.declared.memory.Hour.{Hour}
use Rattle.store.specs.declared.memory.Quarter.{Quarter}
use Rattle.tariff.specs.Pricing.{Meaning}
use Rattle.audit.specs.Audits.{Audits, Chooses, MakesRun, goes_on, over, stops}
use Rattle.audit.specs.Runs.{view_after_calls}
use Rattle.audit.proofs.Ordered.{in_order}
use Rattle.audit.proofs.Promised.{promised}
use Rattle.audit.proofs.auditing.audit.Goals as goal

module _ {A : Type 0} (chooses : Chooses A) (meaning : Meaning) where
  -- an audit leaves what its calls make of what the book held
  performed_by : {n : ℕ} {a b : A} {last : Answer} {book end : Book} {calls : List Call}
      → Audits chooses meaning n a last book calls b end → view end ≡ view_after_calls meaning calls (view book)
  performed_by over = refl
  performed_by (stops chose) = refl
  performed_by (goes_on {calls = calls} chose made rest) =
      performed_by rest ∙ ap (view_after_calls meaning calls) made.leaves

  -- in the memory that it began with
  kept_by : {n : ℕ} {a b : A} {last : Answer} {book end : Book} {calls : List Call}
      → Audits chooses meaning n a last book calls b end → SameMemory book end
  kept_by {book = book} over = same_memory book
  kept_by {book = book} (stops chose) = same_memory book
  kept_by (goes_on chose made rest) =
      let later = kept_by rest in
      record {
        quarters = later.quarters ∙ made.memory.quarters;
        hours = later.hours ∙ made.memory.hours;
        entries = later.entries ∙ made.memory.entries;
      }

  of_turns : {n : ℕ} {a b : A} {last : Answer} {book end : Book} {calls : List Call} (turns : ℕ) → n ≡ turns
      → Audits chooses meaning n a last book calls b end → Audits chooses meaning turns a last book calls b end
  of_turns {a = a} {b} {last} {book} {end} {calls} turns is audited =
      subst (λ n. Audits chooses meaning n a last book calls b end) is audited

-- the run that was made, from the new book on
module _ {A : Type 0} {chooses : Chooses A} {meaning : Meaning} {turns : ℕ} {a b : A}
    {lent_quarters : MutBor (List Quarter)} {lent_hours : MutBor (List Hour)} {lent_entries : MutBor (List Entry)}
    {new end : Book} {calls : List Call} where
  made_by : view new ≡ blank_view (capacity (length lent_quarters.now) (length lent_hours.now)) (length lent_entries.now)
      → IsLent lent_quarters lent_hours lent_entries new
      → LeavesMemory lent_quarters.now lent_hours.now lent_entries.now new
      → Audits chooses meaning turns a Begun new calls b end
      → MakesRun chooses meaning turns a lent_quarters lent_hours lent_entries b end
  made_by blank lent kept audited =
      let memory = kept_by chooses meaning audited in
      record {
        calls = calls;
        new = new;
        blank = blank;
        kept = kept;
        chosen = audited;
        holds = performed_by chooses meaning audited;
        lent = record {
          quarters = memory.quarters ∙ lent.quarters;
          hours = memory.hours ∙ lent.hours;
          entries = memory.entries ∙ lent.entries;
        };
      }

pub loop-turn-init : goal.loop-turn-init
loop-turn-init g c left end calls is b audited =
    (calls, of_turns g.A.Analyst.chooses (g.S.Schedule.meaning c.args.schedule.now) c.args.turns (omega arith) audited)

pub loop-turn-preserved : goal.loop-turn-preserved
loop-turn-preserved g c left end calls is b rest =
    c.loop-turn.invariant (suc left) end (call_of c.in-Some.request ∷ calls) (omega arith) b
    (goes_on c.in-Some.ensures c.perform-last.ensures rest)

pub returns-in_default : goal.returns-in_default
returns-in_default g c =
    let meaning = g.S.Schedule.meaning c.args.schedule.now in
    let left = c.args.turns - (c.loop-turn._turn + 1) in
    let all = c.loop-turn.invariant (suc left) c.loop-turn.book [] (omega arith) c.next.new.self (stops c.in_default.ensures) in
    record {
      made = made_by {calls = all.0} c.new-book.ensures.blank c.new-book.ensures.lent c.new-book.ensures.kept all.1;
      ordered = in_order meaning;
      promise = promised meaning;
      stands = c.new-book.ensures.stands;
    }

pub returns : goal.returns
returns g c =
    let meaning = g.S.Schedule.meaning c.args.schedule.now in
    let all = c.loop-turn.invariant 0 c.loop-turn.book [] (omega arith) c.loop-turn.analyst over in
    record {
      made = made_by {calls = all.0} c.new-book.ensures.blank c.new-book.ensures.lent c.new-book.ensures.kept all.1;
      ordered = in_order meaning;
      promise = promised meaning;
      stands = c.new-book.ensures.stands;
    }
