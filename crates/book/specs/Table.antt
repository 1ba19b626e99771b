-- The refusal table: for each call its rows, the uppermost first. A call is refused by the first row that
-- holds.
use Rattle.std.specs.Prelude.{ℕ, ◌+◌, ◌-◌, ◌<◌, Bool, true, false, not, ◌&&◌, List, [], ◌∷◌, map, length, is_some, is_none, Some, None, Ok, Err, Option, unwrap_or, nat_le, nat_lt, if◌then◌else◌, ⊤}
use Rattle.std.specs.Str.{bytes_eq}
use Rattle.ledger.specs.Entries.{differences, entries_for}
use Rattle.ledger.specs.declared.entry.Entry.{Entry}
use Rattle.ledger.specs.declared.entry.EntryKind.TheVariants.{Bill, TrueUp}
use Rattle.store.specs.Months.{can_carry, days_within, first_short_month, first_missing_place}
use Rattle.store.specs.Posts.{day_fault, post_places, post_within}
use Rattle.store.specs.declared.month.State.{State}
use Rattle.store.specs.declared.month.State.TheVariants.{Billed, Final}
use Rattle.store.specs.declared.post.Post.{Post}
use Rattle.store.specs.declared.post.Reading.{Reading}
use Rattle.tariff.specs.Limits.{most_demand, line_count}
use Rattle.tariff.specs.Pricing.{Meaning, Outcome}
use Rattle.tariff.specs.Refusals.{numbers_of}
use Rattle.tariff.specs.declared.line.Line.TheVariants.{SystemDemand}
use Rattle.tariff.specs.declared.refusal.Fault.{Fault}
use Rattle.tariff.specs.declared.refusal.Refusal.{Refusal}
use Rattle.tariff.specs.declared.refusal.Refusal.TheVariants.{BookBlank, BookOpen, OpeningOutside, NoMonthFree, DaysOutside, NoSuchMonth, MonthFinal, NoSuchPlace, OtherPoint, OutsideLimit, Missing, MonthBilled, MonthOpen, EarlierMonth, LinePastLimit, LedgerFull, MonthDue}
use Rattle.book.specs.Calls.{Call, opens, starts, posts, posts_day, bills, trues_up, finalises, asks, Question, whether_due, line_total}
use Rattle.book.specs.Views.{View, BilledPoint, altered_line, amounts_in, month_has_reached, is_month, month_at, month_index, month_outcome, sums_of}

pub record Row : Type 0 where
  pub holds : Bool
  pub refusal : Refusal

abbrev pub row : Bool → Refusal → Row
row holds refusal = record { holds = holds; refusal = refusal }

abbrev pub is_fault : Outcome → Bool
is_fault (Ok cents) = false
is_fault (Err fault) = true

-- the fault of an outcome; where it has none, no row that names it holds
abbrev pub fault_in : Outcome → Fault
fault_in (Ok cents) = record { line = SystemDemand; rider = None }
fault_in (Err fault) = fault

-- whether a code is that of the point
abbrev pub is_code_of : List ℕ → Option BilledPoint → Bool
is_code_of code (Some point) = bytes_eq code point.code
is_code_of code None = false

abbrev pub opening_within : ℕ → ℕ → List ℕ → Bool
opening_within contract substation carried =
    nat_le 1 contract && (nat_le contract substation && (nat_le substation most_demand && can_carry carried))

abbrev pub free_entries : View → ℕ
free_entries v = v.room - length v.ledger

-- the entries that a bill and a true-up of a month write
abbrev pub bill_entries : Meaning → View → ℕ → List Entry
bill_entries meaning v m = entries_for Bill m (amounts_in (month_outcome meaning v m))

abbrev pub true_up_entries : Meaning → View → ℕ → List Entry
true_up_entries meaning v m =
    entries_for TrueUp m (differences (amounts_in (month_outcome meaning v m)) (sums_of v m))

-- the rows that several calls share, each with the month that the call names
abbrev pub blank_book : ℕ → View → Row
blank_book m v = row (is_none v.point) (BookBlank m)

abbrev pub no_such_month : ℕ → View → Row
no_such_month m v = row (not (is_month m v)) (NoSuchMonth m)

abbrev pub month_final : ℕ → View → Row
month_final m v = row (month_has_reached Final m v) (MonthFinal m)

abbrev pub month_open : ℕ → View → Row
month_open m v = row (not (month_has_reached Billed m v)) (MonthOpen m)

-- what every call with a month begins with, and every change of one
abbrev pub month_rows : ℕ → View → List Row → List Row
month_rows m v more = blank_book m v ∷ no_such_month m v ∷ more

abbrev pub changeable_rows : ℕ → View → List Row → List Row
changeable_rows m v more = month_rows m v (month_final m v ∷ more)

-- the lowest of the earlier months that has not reached a state
abbrev pub earlier_month : State → ℕ → View → Row
earlier_month state m v =
    let short = first_short_month state v.months (month_index m) in
    row (nat_lt short (month_index m)) (EarlierMonth m (short + 1))

abbrev pub line_past_limit : Meaning → ℕ → View → Row
line_past_limit meaning m v =
    let outcome = month_outcome meaning v m in row (is_fault outcome) (LinePastLimit m (fault_in outcome))

abbrev pub ledger_full : List Entry → ℕ → View → Row
ledger_full entries m v = row (nat_lt (free_entries v) (length entries)) (LedgerFull m (free_entries v))

-- the rows of a post that are its own
abbrev pub post_rows : ℕ → ℕ → Post → View → List Row
post_rows m place post v =
    row (nat_le (post_places post (month_at m v).days) place) (NoSuchPlace m place)
    ∷ row (not (post_within post)) (OutsideLimit m 0)
    ∷ []

-- a day's readings have the code of their point
abbrev pub day_rows : ℕ → ℕ → List ℕ → List Reading → View → List Row
day_rows m day code readings v =
    row (nat_le (month_at m v).days day) (NoSuchPlace m day)
    ∷ row (not (is_code_of code v.point)) (OtherPoint m)
    ∷ row (is_some (day_fault readings)) (OutsideLimit m (unwrap_or (day_fault readings) 0))
    ∷ []

-- the rows of the other calls that follow those for the month
abbrev pub bill_rows : Meaning → ℕ → View → List Row
bill_rows meaning m v =
    let place = first_missing_place (month_at m v) in
    row (is_some place) (Missing m (unwrap_or place 0))
    ∷ row (month_has_reached Billed m v) (MonthBilled m)
    ∷ earlier_month Billed m v
    ∷ line_past_limit meaning m v
    ∷ ledger_full (bill_entries meaning v m) m v
    ∷ []

abbrev pub true_up_rows : Meaning → ℕ → View → List Row
true_up_rows meaning m v =
    month_open m v
    ∷ line_past_limit meaning m v
    ∷ ledger_full (true_up_entries meaning v m) m v
    ∷ []

abbrev pub finalise_rows : Meaning → ℕ → View → List Row
finalise_rows meaning m v =
    month_open m v
    ∷ earlier_month Final m v
    ∷ line_past_limit meaning m v
    ∷ row (is_some (altered_line meaning v m)) (MonthDue m (unwrap_or (altered_line meaning v m) 0))
    ∷ []

abbrev pub due_rows : Meaning → ℕ → View → List Row
due_rows meaning m v =
    month_open m v
    ∷ line_past_limit meaning m v
    ∷ []

abbrev pub total_rows : ℕ → ℕ → View → List Row
total_rows m line v =
    row (not (nat_le 1 line && nat_le line line_count)) (NoSuchPlace m line)
    ∷ month_open m v
    ∷ []

-- the rows of a question, the uppermost first
abbrev pub question_rows : Meaning → Question → View → List Row
question_rows meaning (whether_due m) v = month_rows m v (due_rows meaning m v)
question_rows meaning (line_total m line) v = month_rows m v (total_rows m line v)

-- a call's rows, the uppermost first
abbrev pub rows : Meaning → Call → View → List Row
rows meaning (opens code contract substation carried) v =
    row (is_some v.point) BookOpen
    ∷ row (not (opening_within contract substation carried)) OpeningOutside
    ∷ []
rows meaning (starts days) v =
    blank_book 0 v
    ∷ row (nat_le v.capacity (length v.months)) NoMonthFree
    ∷ row (not (days_within days)) DaysOutside
    ∷ []
rows meaning (posts m place post) v = changeable_rows m v (post_rows m place post v)
rows meaning (posts_day m day code readings) v = changeable_rows m v (day_rows m day code readings v)
rows meaning (bills m) v = month_rows m v (bill_rows meaning m v)
rows meaning (trues_up m) v = changeable_rows m v (true_up_rows meaning m v)
rows meaning (finalises m) v = changeable_rows m v (finalise_rows meaning m v)
rows meaning (asks question) v = question_rows meaning question v

-- the first row that holds
abbrev pub first_holding : List Row → Option Refusal
first_holding [] = None
first_holding (r ∷ rs) = if r.holds then Some r.refusal else first_holding rs

-- what refuses a call, if anything does
abbrev pub refusal_of : Meaning → Call → View → Option Refusal
refusal_of meaning call v = first_holding (rows meaning call v)

-- the rows of every call stand in the order of their numbers, so it is one table
abbrev pub IsRising : List ℕ → Type 0
IsRising (n ∷ (m ∷ more)) = (n < m) × IsRising (m ∷ more)
IsRising _ = ⊤

abbrev pub IsInOrder : List Row → Type 0
IsInOrder call_rows = IsRising (map (λ r. (numbers_of r.refusal).number) call_rows)
