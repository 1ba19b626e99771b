-- The words of a line that was written are those that it was written of.
use Rattle.std.proofs.Common.{◌≡◌, ℕ, zero, suc, ◌==◌, ◌++◌, Bool, true, false, not, List, [], ◌∷◌, length, take, refl, ap, ◌∙◌, append-nil, arith}
use Rattle.std.specs.List.{All}
use Rattle.std.proofs.lemmas.Bool.{ltb-true}
use Rattle.std.proofs.lemmas.List.{take_all}
use Rattle.journal.specs.Words.{are_words, is_plain, is_word, words_text}
use Rattle.journal.specs.Words.{uncommented, words_of}
use Rattle.journal.proofs.ReadsBack.{and_both, first_all, none_append, none_of}
use Rattle.journal.proofs.Texts.{is_space, one_word, word_then}

abbrev is_hash : ℕ → Bool
is_hash byte = byte == 35

not_true : (b : Bool) → not b ≡ true → b ≡ false
not_true true is = cc
not_true false is = refl

no_space : (word : List ℕ) → is_plain word ≡ true → All (λ byte. is_space byte ≡ false) word
no_space [] plain k d here = absurd (omega arith)
no_space (byte ∷ bytes) plain zero d here = not_true _ (and_both _ _ (and_both _ _ plain).0).0
no_space (byte ∷ bytes) plain (suc k) d here = no_space bytes (and_both _ _ plain).1 k d (omega arith)

no_hash : (word : List ℕ) → is_plain word ≡ true → none_of is_hash word
unfolding none_of
no_hash [] plain = tt
no_hash (byte ∷ bytes) plain =
    (not_true _ (and_both _ _ (and_both _ _ plain).0).1, no_hash bytes (and_both _ _ plain).1)

words_text_no_hash : (words : List (List ℕ)) → are_words words ≡ true → none_of is_hash (words_text words)
unfolding none_of
words_text_no_hash [] all = tt
words_text_no_hash (word ∷ words) all =
    let (first, others) = and_both _ _ all in
    let front = no_hash word (and_both _ _ first).1 in
    (refl, none_append is_hash word (words_text words) front (words_text_no_hash words others))

pub text_uncommented : (word : List ℕ) (words : List (List ℕ)) → is_word word ≡ true
    → are_words words ≡ true → uncommented (word ++ words_text words) ≡ word ++ words_text words
text_uncommented word words first all =
    let text = word ++ words_text words in
    let front = no_hash word (and_both _ _ first).1 in
    let none = none_append is_hash word (words_text words) front (words_text_no_hash words all) in
    ap (λ at. take at text) (first_all is_hash text none) ∙ take_all (length text) text (omega arith)

pub text_words : (word : List ℕ) (words : List (List ℕ)) → is_word word ≡ true → are_words words ≡ true
    → words_of (word ++ words_text words) ≡ word ∷ words
text_words word [] first all =
    let (some, plain) = and_both _ _ first in
    ap words_of (append-nil word) ∙ one_word word (ltb-true 0 (length word) some) (no_space word plain)
text_words word (next ∷ words) first all =
    let (some, plain) = and_both _ _ first in
    let (second, others) = and_both _ _ all in
    word_then word (next ++ words_text words) (ltb-true 0 (length word) some) (no_space word plain)
    ∙ ap (λ more. word ∷ more) (text_words next words second others)
