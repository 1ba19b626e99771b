-- An entry of a book in print: what is answered, and what the bytes hold after it.
use Rattle.std.specs.Prelude.{ℕ, List, [], ◌∷◌, length, is_some, Option, Result, nat_le, nat_lt, if◌then◌else◌}
use Rattle.ledger.specs.Texts.{at_front, line_at}
use Rattle.ledger.specs.declared.entry.TheConstants.{MOST_BYTES}
use Rattle.tariff.specs.declared.refusal.Refusal.{Refusal}
use Rattle.tariff.specs.declared.refusal.Refusal.TheVariants.{NoSuchPlace, TooFewBytes}
use Rattle.book.specs.Steps.{reply_unless}
use Rattle.book.specs.Table.{Row, blank_book, first_holding, row}
use Rattle.book.specs.Views.{View}

-- the rows that refuse it, by the entry's place from 0 and the number of bytes
abbrev pub text_rows : ℕ → ℕ → View → List Row
text_rows entry room v =
    blank_book 0 v
    ∷ row (nat_le (length v.ledger) entry) (NoSuchPlace 0 entry)
    ∷ row (nat_lt room MOST_BYTES) TooFewBytes
    ∷ []

abbrev text_refusal : ℕ → ℕ → View → Option Refusal
text_refusal entry room v = first_holding (text_rows entry room v)

-- the length of the entry's line
abbrev pub text_answer : ℕ → ℕ → View → Result ℕ Refusal
text_answer entry room v = reply_unless (text_refusal entry room v) (length (line_at entry v.ledger))

-- the line at the front of the bytes, or the bytes as they were
abbrev pub text_bytes : ℕ → View → List ℕ → List ℕ
text_bytes entry v bytes =
    if is_some (text_refusal entry (length bytes) v) then bytes else at_front (line_at entry v.ledger) bytes
