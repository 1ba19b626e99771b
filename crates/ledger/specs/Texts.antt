-- An entry in print.
use Rattle.std.specs.Prelude.{◌≡◌, ℕ, ◌*◌, ◌≤◌, List, ◌++◌, codes, decimal, drop, length, nat_le, nat_lt, slice_index_or, Ok, Err, Result, if◌then◌else◌}
use Rattle.std.specs.Fmt.{signed_decimal}
use Rattle.tariff.specs.Limits.{most_cents}
use Rattle.tariff.specs.declared.refusal.Refusal.{Refusal}
use Rattle.tariff.specs.declared.refusal.Refusal.TheVariants.{NoSuchPlace, TooFewBytes as BytesTooFew}
use Rattle.ledger.specs.declared.entry.Entry.{Entry}
use Rattle.ledger.specs.declared.entry.EntryKind.{EntryKind}
use Rattle.ledger.specs.declared.entry.EntryKind.TheVariants.{Bill, TrueUp}
use Rattle.ledger.specs.declared.entries.NoText.{NoText}
use Rattle.ledger.specs.declared.entries.NoText.TheVariants.{NoSuchEntry, TooFewBytes}
use Rattle.ledger.specs.declared.entry.TheConstants.{MOST_BYTES}
use Rattle.ledger.specs.declared.entry.TheConstants.Entry.{UNWRITTEN}

abbrev pub kind_letter : EntryKind → List ℕ
kind_letter Bill = codes "B"
kind_letter TrueUp = codes "T"

-- the month, the letter, the line and the cents, one space between
abbrev pub entry_text : Entry → List ℕ
entry_text entry =
    decimal entry.month ++ (codes " "
    ++ (kind_letter entry.kind ++ (codes " "
    ++ (decimal entry.line ++ (codes " " ++ signed_decimal entry.cents)))))

-- as a line of its own
abbrev pub entry_line : Entry → List ℕ
entry_line entry = entry_text entry ++ codes "\n"

-- the line of an entry, by its number from 0
abbrev pub line_at : ℕ → List Entry → List ℕ
line_at entry entries = entry_line (slice_index_or entries entry UNWRITTEN)

-- a text at the front of bytes; those past it stay
abbrev pub at_front : List ℕ → List ℕ → List ℕ
at_front text bytes = text ++ drop (length text) bytes

-- the bytes after a text was put at their front, and where it ends
pub record IsLaid (text before : List ℕ) (at : ℕ) (bytes : List ℕ) : Type 0 where
  pub ends : at ≡ length text
  pub within : at ≤ length before
  pub now : bytes ≡ at_front text before

-- an entry takes a sum from one end of its limit to the other at most
abbrev pub most_owed : ℕ
most_owed = 2 * most_cents

-- how long the line is, or why there is none, from the entries and the number of bytes
abbrev pub text_answer : ℕ → List Entry → ℕ → Result ℕ NoText
text_answer entry entries room =
    if nat_le (length entries) entry then Err (NoSuchEntry entry)
    else if nat_lt room MOST_BYTES then Err TooFewBytes
    else Ok (length (line_at entry entries))

-- the refusal that says why, with no month; its place is the entry's number
abbrev pub no_text_refusal : NoText → Refusal
no_text_refusal (NoSuchEntry entry) = NoSuchPlace 0 entry
no_text_refusal TooFewBytes = BytesTooFew
