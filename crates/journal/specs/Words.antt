-- The words of a line: what stands between its spaces, up to its comment.
use Rattle.std.specs.Prelude.{ℕ, ◌==◌, ◌&&◌, Bool, true, not, List, [], ◌∷◌, length, Option, Some, None, nat_lt}
use Rattle.std.specs.List.{before_first, filter, flat_map, slice_split}
use Rattle.std.specs.Option.{option_and_then}

-- the bytes that part a line's text
abbrev pub space : ℕ
space = 32

abbrev pub hash : ℕ
hash = 35

abbrev pub comma : ℕ
comma = 44

abbrev pub slash : ℕ
slash = 47

-- a line before the first `#`, or all of it
abbrev pub uncommented : List ℕ → List ℕ
uncommented line = before_first (λ byte. byte == hash) line

-- what stands between the spaces of a text, where anything does
unfoldable pub words_of : List ℕ → List (List ℕ)
words_of text = filter (λ part. nat_lt 0 (length part)) (slice_split (λ byte. byte == space) text)

-- words as they stand behind one another in a line, each after a space
abbrev pub words_text : List (List ℕ) → List ℕ
words_text words = flat_map (λ word. space ∷ word) words

-- without a space and without the sign of a comment
abbrev pub is_plain : List ℕ → Bool
is_plain [] = true
is_plain (byte ∷ bytes) = (not (byte == space) && not (byte == hash)) && is_plain bytes

-- what stands in a line as one word
abbrev pub is_word : List ℕ → Bool
is_word text = nat_lt 0 (length text) && is_plain text

abbrev pub are_words : List (List ℕ) → Bool
are_words [] = true
are_words (word ∷ words) = is_word word && are_words words

-- the first word, and the words after it
abbrev pub first_word : List (List ℕ) → Option (List ℕ × List (List ℕ))
first_word [] = None
first_word (word ∷ words) = Some (word, words)

-- what `do` is made of
infixl 10 ◌>>=◌
abbrev pub ◌>>=◌ : {A B : Type 0} → Option A → (A → Option B) → Option B
found >>= next = option_and_then next found
