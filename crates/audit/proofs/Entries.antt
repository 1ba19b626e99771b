-- The ledger of a run: what the accepted bills and true-ups write, in their order.
use Rattle.std.proofs.Common.{◌≡◌, cond, List, [], ◌∷◌, ◌++◌, sym, refl, ap, ◌∙◌}
use Rattle.std.proofs.lemmas.List.{append_assoc, append-nil}
use Rattle.book.specs.Calls.{Call, bills, trues_up}
use Rattle.book.specs.Steps.{view_after, step}
use Rattle.book.specs.Views.{View}
use Rattle.tariff.specs.Pricing.{Meaning}
use Rattle.audit.specs.Runs.{is_accepted, view_after_calls, call_entries, entries_of_calls}
use Rattle.audit.proofs.Table.{by_step}

module _ (meaning : Meaning) where
  pub after_ledger : (call : Call) (v : View)
      → (view_after meaning call v).ledger ≡ v.ledger ++ call_entries meaning call v
  after_ledger (bills m) v = refl
  after_ledger (trues_up m) v = refl
  after_ledger _ v = sym (append-nil v.ledger)

  step_ledger : (call : Call) (v : View)
      → (step meaning call v).ledger ≡ v.ledger ++ cond (is_accepted meaning call v) (call_entries meaning call v) []
  step_ledger call v =
      by_step meaning call v (λ w taken. w.ledger ≡ v.ledger ++ cond taken (call_entries meaning call v) []) (sym (append-nil v.ledger)) (λ e. after_ledger call v)

  pub run_ledger : (calls : List Call) (v : View)
      → (view_after_calls meaning calls v).ledger ≡ v.ledger ++ entries_of_calls meaning calls v
  run_ledger [] v = sym (append-nil v.ledger)
  run_ledger (call ∷ calls) v =
      let w = step meaning call v in
      run_ledger calls w ∙ ap (λ entries. entries ++ entries_of_calls meaning calls w) (step_ledger call v) ∙ append_assoc v.ledger _ _
