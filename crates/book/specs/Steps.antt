-- What a call answers and what it leaves: the one step that contracts and runs are made of.
use Rattle.std.specs.Prelude.{ℕ, ◌+◌, List, [], ◌∷◌, ◌++◌, length, is_some, Some, None, Ok, Err, Option, Result}
use Rattle.ledger.specs.Entries.{line_sum}
use Rattle.ledger.specs.declared.entry.Entry.{Entry}
use Rattle.store.specs.Months.{Month, earlier_peaks, months_with, new_month, with_state}
use Rattle.store.specs.Posts.{month_with_day, month_with_post}
use Rattle.store.specs.declared.month.State.TheVariants.{Billed, Final}
use Rattle.tariff.specs.Pricing.{Meaning}
use Rattle.tariff.specs.declared.refusal.Refusal.{Refusal}
use Rattle.book.specs.Calls.{Call, opens, starts, posts, posts_day, bills, trues_up, finalises, asks, Question, whether_due, line_total, Reply, ReplyTo}
use Rattle.book.specs.Table.{bill_entries, refusal_of, true_up_entries}
use Rattle.book.specs.Views.{View, altered_line, month_index}

-- a view with one month altered
abbrev pub with_month : ℕ → (Month → Month) → View → View
with_month m alter v = record v { months = months_with (month_index m) alter v.months }

-- a view with entries more
abbrev pub with_entries : List Entry → View → View
with_entries entries v = record v { ledger = v.ledger ++ entries }

-- what an accepted call makes of what the book holds
abbrev pub view_after : Meaning → Call → View → View
view_after meaning (opens code contract substation carried) v = record v {
  point = Some (record { code = code; contract = contract; substation = substation });
  before = earlier_peaks carried;
}
view_after meaning (starts days) v = record v { months = v.months ++ (new_month days ∷ []) }
view_after meaning (posts m place post) v = with_month m (month_with_post place post) v
view_after meaning (posts_day m day code readings) v = with_month m (month_with_day day readings) v
view_after meaning (bills m) v = with_month m (with_state Billed) (with_entries (bill_entries meaning v m) v)
view_after meaning (trues_up m) v = with_entries (true_up_entries meaning v m) v
view_after meaning (finalises m) v = with_month m (with_state Final) v
view_after meaning (asks question) v = v

-- what a question replies
abbrev pub question_reply : Meaning → (question : Question) → View → ReplyTo question
question_reply meaning (whether_due m) v = is_some (altered_line meaning v m)
question_reply meaning (line_total m line) v = line_sum v.ledger m line

-- what an accepted call replies
abbrev pub reply : Meaning → (call : Call) → View → Reply call
reply meaning (starts days) v = length v.months + 1
reply meaning (bills m) v = length (bill_entries meaning v m)
reply meaning (trues_up m) v = length (true_up_entries meaning v m)
reply meaning (asks question) v = question_reply meaning question v
reply meaning _ v = tt

abbrev pub reply_unless : {X : Type 0} → Option Refusal → X → Result X Refusal
reply_unless None x = Ok x
reply_unless (Some refusal) x = Err refusal

-- a refused call alters nothing
abbrev pub view_unless : Option Refusal → View → View → View
view_unless None made v = made
view_unless (Some refusal) made v = v

abbrev pub answer : Meaning → (call : Call) → View → Result (Reply call) Refusal
answer meaning call v = reply_unless (refusal_of meaning call v) (reply meaning call v)

abbrev pub step : Meaning → Call → View → View
step meaning call v = view_unless (refusal_of meaning call v) (view_after meaning call v) v
