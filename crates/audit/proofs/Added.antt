-- What a call adds to the ledger: the entries, one by one, and how many.
use Rattle.std.proofs.Common.{◌≡◌, ℕ, ◌+◌, ◌-◌, ◌-ℤ◌, ◌<◌, true, List, [], ◌∷◌, ◌++◌, length, get_or, ℤ, pos, Some, None, Ok, Result, sym, refl, ap, ◌∙◌, arith}
use Rattle.std.proofs.lemmas.List.{append-nil, length-append}
use Rattle.book.specs.Calls.{Call, Reply, bills, trues_up}
use Rattle.book.specs.Steps.{answer, reply, step}
use Rattle.book.specs.Table.{is_fault, refusal_of}
use Rattle.book.specs.Views.{View, amounts_in, month_outcome}
use Rattle.ledger.specs.Entries.{differences, entries_for, is_written, line_sum, sums}
use Rattle.ledger.specs.declared.entry.Entry.{Entry}
use Rattle.ledger.specs.declared.entry.EntryKind.TheVariants.{Bill, TrueUp}
use Rattle.ledger.proofs.Sums.{entry_of, get_or_differences, get_or_sums, length_differences}
use Rattle.ledger.proofs.Written.{bill_counted, bill_line, differs_written, entries_rise, entry_at, line_has_entry, written_differs}
use Rattle.tariff.specs.Limits.{line_count}
use Rattle.tariff.specs.Pricing.{Meaning, Outcome}
use Rattle.tariff.specs.declared.refusal.Refusal.{Refusal}
use Rattle.audit.specs.Histories.{history, number_returned, numbers_returned}
use Rattle.audit.specs.Laws.{Adds, IsBill, IsTrueUp, IsTrueUpEntry}
use Rattle.audit.specs.Runs.{call_entries, view_after_calls}
use Rattle.audit.proofs.Entries.{after_ledger}
use Rattle.audit.proofs.Priced.{amounts_line, length_amounts, priced_at}
use Rattle.audit.proofs.Table.{billing, by_answer, truing}

-- the entries for the lines of a month that was priced
module _ (m : ℕ) (outcome : Outcome) (cents : List ℤ) (priced : outcome ≡ Ok cents) where
  abbrev amounts : List ℤ
  amounts = amounts_in outcome

  counted : length amounts ≡ line_count
  counted = length_amounts outcome (ap is_fault priced)

  is_bill : IsBill m cents (entries_for Bill m amounts)
  is_bill = record {
    counted = bill_counted m 1 amounts ∙ counted;
    lines = λ i here.
        bill_line m 1 amounts i (rw counted here)
        ∙ ap (λ x. Some (entry_of Bill m (1 + i) x)) (amounts_line outcome cents i priced here)
        ∙ ap (λ line. Some (entry_of Bill m line (get_or cents i (pos 0)))) (omega arith);
  }

  module _ (before : List Entry) where
    abbrev gaps : List ℤ
    gaps = differences amounts (sums before m)

    gaps_counted : length gaps ≡ line_count
    gaps_counted = length_differences amounts (sums before m) ∙ counted

    gap : (i : ℕ) → i < line_count → get_or gaps i (pos 0) ≡ get_or cents i (pos 0) -ℤ line_sum before m (i + 1)
    gap i here =
        let amount = amounts_line outcome cents i priced here in
        let sum = get_or_sums before m i here in
        let both = get_or_differences amounts (sums before m) i (rw counted here) in
        rw (amount, sum) at both

    true_up_entry : (i : ℕ) → i < line_count → is_written TrueUp (get_or gaps i (pos 0)) ≡ true
        → IsTrueUpEntry m cents before (entry_of TrueUp m (i + 1) (get_or gaps i (pos 0)))
    true_up_entry i here written =
        let place : i + 1 - 1 ≡ i = omega arith in
        record {
          month = refl;
          kind = refl;
          line = (omega arith, omega arith);
          differs = rw place (written_differs (get_or cents i (pos 0)) (line_sum before m (i + 1)) (rw (gap i here) at written));
          difference = rw place (gap i here);
        }

    is_true_up : IsTrueUp m cents before (entries_for TrueUp m gaps)
    is_true_up = record {
      each = λ k entry e.
          let at = entry_at TrueUp m 1 gaps k entry e in
          let is = at.1.is ∙ ap (λ line. entry_of TrueUp m line (get_or gaps at.0 (pos 0))) (omega arith) in
          rw is (true_up_entry at.0 (rw gaps_counted at at.1.here) at.1.written);
      every = λ i here differs.
          let written : is_written TrueUp (get_or gaps i (pos 0)) ≡ true = rw (gap i here) (differs_written (get_or cents i (pos 0)) (line_sum before m (i + 1)) differs) in
          let found = line_has_entry TrueUp m 1 gaps i (rw gaps_counted here) written in
          (found.0, _, found.1, omega arith);
      rising = entries_rise TrueUp m 1 gaps;
    }

-- what a call added, by what it was answered
pub record Grown (meaning : Meaning) (v : View) (call : Call) (w : View) (answered : Result (Reply call) Refusal) : Type 0 where
  pub entries : List Entry
  pub behind : w.ledger ≡ v.ledger ++ entries
  pub adds : Adds meaning v call answered entries
  pub counted : number_returned call answered ≡ length entries

prescribed : (meaning : Meaning) (call : Call) (v : View) → refusal_of meaning call v ≡ None
    → Adds meaning v call (Ok (reply meaning call v)) (call_entries meaning call v) × (number_returned call (Ok (reply meaning call v)) ≡ length (call_entries meaning call v))
prescribed meaning (bills m) v e =
    let found = priced_at (month_outcome meaning v m) (billing meaning v m e).prices in
    ((found.0, found.1, is_bill m (month_outcome meaning v m) found.0 found.1), refl)
prescribed meaning (trues_up m) v e =
    let found = priced_at (month_outcome meaning v m) (truing meaning v m e).prices in
    ((found.0, found.1, is_true_up m (month_outcome meaning v m) found.0 found.1 v.ledger), refl)
prescribed meaning _ v e = (refl, refl)

pub grown : (meaning : Meaning) (call : Call) (v : View)
    → Grown meaning v call (step meaning call v) (answer meaning call v)
grown meaning call v =
    by_answer meaning call v (Grown meaning v call)
    (λ refusal. record { entries = []; behind = sym (append-nil v.ledger); adds = refl; counted = refl })
    (λ e.
    let both = prescribed meaning call v e in
    record { entries = call_entries meaning call v; behind = after_ledger meaning call v; adds = both.0; counted = both.1 })

-- over a run
pub run_length : (meaning : Meaning) (calls : List Call) (v : View)
    → length (view_after_calls meaning calls v).ledger ≡ length v.ledger + numbers_returned (history meaning calls v)
run_length meaning [] v = omega arith
run_length meaning (call ∷ calls) v =
    let now = grown meaning call v in
    let more = ap length now.behind ∙ length-append v.ledger now.entries in
    omega (arith, more, now.counted, run_length meaning calls (step meaning call v))
