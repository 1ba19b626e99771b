-- What one word writes down: a number, a figure, a reading.
use Rattle.std.specs.Prelude.{ℕ, ◌-◌, ◌^◌, ◌==◌, ◌++◌, ◌&&◌, Bool, if◌then◌else◌, List, [], ◌∷◌, length, ℤ, Option, Some, None, nat_le, nat_lt, decimal}
use Rattle.std.specs.List.{after_first, before_first, position_or_len}
use Rattle.std.specs.Option.{option_and_then, option_map}
use Rattle.std.specs.Str.{all_ascii_digits}
use Rattle.std.specs.Str.Parse.{digits_value, signed_digits_value, starts_with_minus, without_leading_plus, without_leading_sign}
use Rattle.store.specs.declared.post.Reading.{Reading}
use Rattle.journal.specs.Words.{◌>>=◌, slash}

-- digits, one or more
abbrev pub are_digits : List ℕ → Bool
are_digits digits = nat_lt 0 (length digits) && all_ascii_digits digits

-- a number: digits, which a plus may lead, and 32 bits hold what they write
unfoldable pub parsed_number : List ℕ → Option ℕ
parsed_number word =
    let digits = without_leading_plus word in
    if are_digits digits && nat_lt (digits_value 10 digits) (2 ^ 32)
    then Some (digits_value 10 digits)
    else None

-- the most that the digits of a figure may write: 64 bits hold it with its sign
abbrev pub most_parsed_figure : List ℕ → ℕ
most_parsed_figure word = if starts_with_minus word then 2 ^ 63 else 2 ^ 63 - 1

-- a figure: the same with a minus too
unfoldable pub parsed_figure : List ℕ → Option ℤ
parsed_figure word =
    let digits = without_leading_sign word in
    if are_digits digits && nat_le (digits_value 10 digits) (most_parsed_figure word)
    then Some (signed_digits_value 10 word)
    else None

-- the texts before and after the first of this byte, where there is one
abbrev pub cut_of : ℕ → List ℕ → Option (List ℕ × List ℕ)
cut_of byte text =
    let here : ℕ → Bool = λ b. b == byte in
    if nat_lt (position_or_len here text) (length text)
    then Some (before_first here text, after_first here text)
    else None

-- a reading: its kW, this byte, and its kVA
unfoldable pub reading_between : ℕ → List ℕ → Option Reading
reading_between separator text = do
  parts ← cut_of separator text
  kw ← parsed_number parts.0
  kva ← parsed_number parts.1
  Some (record { kw = kw; kva = kva })

-- in a call, with a slash
abbrev pub parsed_reading : List ℕ → Option Reading
parsed_reading word = reading_between slash word

abbrev pub reading_text : Reading → List ℕ
reading_text reading = decimal reading.kw ++ (slash ∷ decimal reading.kva)

-- what each word writes down, where all of them are such tokens
abbrev pub parsed_values : {X : Type 0} → (List ℕ → Option X) → List (List ℕ) → Option (List X)
parsed_values parse [] = Some []
parsed_values parse (word ∷ words) =
    option_and_then (λ item. option_map (λ items. item ∷ items) (parsed_values parse words)) (parse word)
