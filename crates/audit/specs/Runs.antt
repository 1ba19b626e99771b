-- Calls performed on a book one after another, all under one schedule.
use Rattle.std.specs.Prelude.{ℕ, Bool, false, ◌&&◌, List, [], ◌∷◌, ◌++◌, Some, None, Option, is_ok, ◌==◌, if◌then◌else◌}
use Rattle.std.specs.Option.{option_or}
use Rattle.book.specs.Calls.{Call, bills, trues_up}
use Rattle.book.specs.Steps.{answer, step}
use Rattle.book.specs.Table.{bill_entries, true_up_entries}
use Rattle.book.specs.Views.{View}
use Rattle.ledger.specs.declared.entry.Entry.{Entry}
use Rattle.tariff.specs.Pricing.{Meaning}

-- what a book holds after the calls, each refused or taken as the table has it
abbrev pub view_after_calls : Meaning → List Call → View → View
view_after_calls meaning [] v = v
view_after_calls meaning (call ∷ calls) v = view_after_calls meaning calls (step meaning call v)

-- whether the call is answered with its reply, and not refused
abbrev pub is_accepted : Meaning → Call → View → Bool
is_accepted meaning call v = is_ok (answer meaning call v)

-- the entries that a call writes where it is accepted, as the table has them: a bill's, a true-up's, or none
abbrev pub call_entries : Meaning → Call → View → List Entry
call_entries meaning (bills m) v = bill_entries meaning v m
call_entries meaning (trues_up m) v = true_up_entries meaning v m
call_entries meaning _ v = []

-- all that the accepted calls write, in their order
abbrev pub entries_of_calls : Meaning → List Call → View → List Entry
entries_of_calls meaning [] v = []
entries_of_calls meaning (call ∷ calls) v =
    (if is_accepted meaning call v then call_entries meaning call v else [])
    ++ entries_of_calls meaning calls (step meaning call v)

-- whether a call is a bill or a true-up of the month
abbrev pub is_pricing_of : ℕ → Call → Bool
is_pricing_of m (bills n) = n == m
is_pricing_of m (trues_up n) = n == m
is_pricing_of m _ = false

-- what the book held when the month was last priced by an accepted bill or true-up of the calls
abbrev pub view_at_pricing : Meaning → List Call → View → ℕ → Option View
view_at_pricing meaning [] v m = None
view_at_pricing meaning (call ∷ calls) v m =
    let later = view_at_pricing meaning calls (step meaning call v) m in
    option_or later (if is_pricing_of m call && is_accepted meaning call v then Some v else None)
