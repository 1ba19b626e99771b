-- The words of a text, one after another.
use Rattle.std.proofs.Common.{◌≡◌, ℕ, Bool, ◌==◌, ◌++◌, ◌<◌, false, cond, List, [], ◌∷◌, length, nat_lt, Option, Some, None, Bor, lit<, refl, sym, ap, ◌∙◌, arith}
use Rattle.std.specs.List.{after_first, before_first, filter, position_or_len, All}
use Rattle.std.proofs.lemmas.List.Splits.{slice_split_at, slice_split_first, slice_split_none}
use Rattle.std.proofs.lemmas.List.Sums.{fails_before_first}
use Rattle.std.proofs.lemmas.Str.Pattern.{IsSplitOnceResult, split_once_first}
use Rattle.std.proofs.lemmas.Bool.Decides.{nat_tests}
use Rattle.journal.specs.Words.{words_of}

abbrev pub is_space : ℕ → Bool
is_space byte = byte == 32

abbrev kept : List ℕ → List (List ℕ) → List (List ℕ)
kept front parts = cond (nat_lt 0 (length front)) (front ∷ parts) parts

kept_some : (front : List ℕ) (parts : List (List ℕ)) → 0 < length front → kept front parts ≡ front ∷ parts
kept_some front parts some = grind (arith, nat_tests)

pub words_after_space : (text : List ℕ) → position_or_len is_space text < length text
    → length (before_first is_space text) ≡ 0 → words_of text ≡ words_of (after_first is_space text)
unfolding words_of
words_after_space text here empty =
    let after = words_of (after_first is_space text) in
    ap (filter (λ part. nat_lt 0 (length part))) (slice_split_first is_space text 0 here)
    ∙ ap (λ n. cond (nat_lt 0 n) (before_first is_space text ∷ after) after) empty

pub words_after_word : (text : List ℕ) → position_or_len is_space text < length text
    → 0 < length (before_first is_space text)
    → words_of text ≡ before_first is_space text ∷ words_of (after_first is_space text)
unfolding words_of
words_after_word text here some =
    ap (filter (λ part. nat_lt 0 (length part))) (slice_split_first is_space text 0 here)
    ∙ kept_some (before_first is_space text) (words_of (after_first is_space text)) some

no_space : (text : List ℕ) → position_or_len is_space text ≡ length text
    → All (λ byte. is_space byte ≡ false) text
no_space text none = λ k d here. fails_before_first is_space text k d (rw none here)

pub last_word : (text : List ℕ) → position_or_len is_space text ≡ length text → 0 < length text
    → words_of text ≡ text ∷ words_of []
unfolding words_of
last_word text none some =
    ap (filter (λ part. nat_lt 0 (length part))) (slice_split_none is_space text (no_space text none))
    ∙ kept_some text [] some

pub no_word : words_of [] ≡ []
unfolding words_of
no_word = refl

-- what is cut off at a space is a word, or nothing where two spaces stand together
pub words_cut : (text : List ℕ) (r : Option (Bor (List ℕ) × Bor (List ℕ))) → IsSplitOnceResult 32 text r
    → (cut : Bor (List ℕ) × Bor (List ℕ)) → r ≡ Some cut
    → (0 < length cut.0.now → words_of text ≡ cut.0.now ∷ words_of cut.1.now)
    × (length cut.0.now ≡ 0 → words_of text ≡ words_of cut.1.now)
words_cut text r split cut is =
    let (here, front, after) = rw is at (split_once_first 32 text r split (lit< tt)) in (
      λ some. words_after_word text here (rw (← front) some)
          ∙ ap (λ word. word ∷ words_of (after_first is_space text)) (sym front)
          ∙ ap (λ left. cut.0.now ∷ words_of left) (sym after),
      λ empty. words_after_space text here (rw (← front) empty) ∙ ap words_of (sym after),
    )

-- a text with no space is one word, or none
pub words_left : (text : List ℕ) (r : Option (Bor (List ℕ) × Bor (List ℕ))) → IsSplitOnceResult 32 text r
    → r ≡ None → 0 < length text → words_of text ≡ text ∷ words_of []
words_left text r split is some =
    last_word text (rw is at (split_once_first 32 text r split (lit< tt))) some

-- one word, and one before a space
pub one_word : (word : List ℕ) → 0 < length word → All (λ byte. is_space byte ≡ false) word
    → words_of word ≡ word ∷ []
unfolding words_of
one_word word some none = ap (filter (λ part. nat_lt 0 (length part))) (slice_split_none is_space word none)
    ∙ kept_some word [] some

pub word_then : (word rest : List ℕ) → 0 < length word → All (λ byte. is_space byte ≡ false) word
    → words_of (word ++ (32 ∷ rest)) ≡ word ∷ words_of rest
unfolding words_of
word_then word rest some none =
    ap (filter (λ part. nat_lt 0 (length part))) (slice_split_at is_space word 32 rest none refl)
    ∙ kept_some word (words_of rest) some
