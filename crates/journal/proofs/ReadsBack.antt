-- What is written of a number, a figure or a reading is one word, and is read as it.
use Rattle.std.proofs.Common.{◌≡◌, ℕ, suc, ◌+◌, ◌^◌, ◌<◌, ◌≤◌, ◌==◌, ◌++◌, Bool, true, false, ◌&&◌, List, [], ◌∷◌, length, map, get_or, ℤ, pos, negsuc, Option, Some, None, Ok, refl, sym, ap, ◌∙◌, append_assoc, append-nil, add-one, drop, length-append, arith, w64, SFits, decimal}
use Rattle.std.specs.Fmt.{signed_decimal}
use Rattle.std.specs.List.{after_first, before_first, position_or_len}
use Rattle.std.specs.Option.{option_and_then, option_map}
use Rattle.std.specs.Str.Parse.{AllDigits, IsNumeral, starts_with_minus, without_leading_plus}
use Rattle.std.proofs.lemmas.Bool.{lt-ltb}
use Rattle.std.proofs.lemmas.Bool.Decides.{nat_tests}
use Rattle.std.proofs.lemmas.Fmt.{decimal_is_IsNumeral}
use Rattle.std.proofs.lemmas.Grind.{common_steps, flat_map-append}
use Rattle.std.proofs.lemmas.Int.{ints}
use Rattle.std.proofs.lemmas.List.{map-append}
use Rattle.std.proofs.lemmas.Str.Parse.{digit_from_value, without_leading_plus_none}
use Rattle.store.specs.declared.post.Reading.{Reading}
use Rattle.journal.specs.Tokens.{cut_of, parsed_figure, parsed_number, reading_between, parsed_reading, reading_text, parsed_values}
use Rattle.journal.specs.Words.{are_words, is_plain, is_word, words_text}
use Rattle.journal.proofs.Parsing.{parse_figure, parse_number}

pub and_yes : (a b : Bool) → a ≡ true → b ≡ true → (a && b) ≡ true
and_yes true true p q = refl
and_yes true false p q = q
and_yes false b p q = p

pub and_both : (a b : Bool) → (a && b) ≡ true → (a ≡ true) × (b ≡ true)
and_both true b p = (refl, p)
and_both false b p = cc

word_of : (text : List ℕ) → 0 < length text → is_plain text ≡ true → is_word text ≡ true
word_of text some plain = and_yes _ _ (lt-ltb 0 (length text) some) plain

-- digits
first_digit : (ds : List ℕ) → IsNumeral 10 ds → (48 ≤ get_or ds 0 0) × (get_or ds 0 0 ≤ 57)
first_digit [] (some, digits) = absurd (omega arith)
first_digit (d ∷ ds) (some, digits) = let range = digit_from_value d digits.0 in (range.0, range.1)

digits_plain : (ds : List ℕ) → AllDigits 10 ds → is_plain ds ≡ true
digits_plain [] digits = refl
digits_plain (d ∷ ds) digits =
    let range = digit_from_value d digits.0 in
    let space : (d == 32) ≡ false = grind (arith, nat_tests, range.0, range.1) in
    let hash : (d == 35) ≡ false = grind (arith, nat_tests, range.0, range.1) in
    rw (space, hash) (digits_plain ds digits.1)

numeral_word : (ds : List ℕ) → IsNumeral 10 ds → is_word ds ≡ true
numeral_word ds (some, digits) = word_of ds some (digits_plain ds digits)

no_plus : (ds : List ℕ) → IsNumeral 10 ds → without_leading_plus ds ≡ ds
no_plus ds numeral = without_leading_plus_none ds (λ plus. absurd (omega (arith, first_digit ds numeral)))

no_minus : (ds : List ℕ) → IsNumeral 10 ds → starts_with_minus ds ≡ false
no_minus ds numeral = let range = first_digit ds numeral in grind (arith, nat_tests, range.0, range.1)

pub number_word : (n : ℕ) → n < 2 ^ 32 → is_word (decimal n) ≡ true
number_word n small = numeral_word (decimal n) (decimal_is_IsNumeral n (omega arith)).0

pub number_again : (n : ℕ) → n < 2 ^ 32 → parsed_number (decimal n) ≡ Some n
number_again n small =
    let (numeral, value) = decimal_is_IsNumeral n (omega arith) in
    sym (parse_number {E = Unit {0}} (decimal n) (Ok n)
    (rw (no_plus (decimal n) numeral) ((numeral, omega (arith, value)), sym value)))

pub figure_word : (z : ℤ) → SFits w64 z → is_word (signed_decimal z) ≡ true
figure_word (pos n) fits = numeral_word (decimal n) (decimal_is_IsNumeral n (omega (arith, ints, fits))).0
figure_word (negsuc n) fits =
    let numeral = (decimal_is_IsNumeral (suc n) (omega (arith, ints, fits))).0 in
    word_of (45 ∷ decimal (suc n)) (omega arith) (digits_plain (decimal (suc n)) numeral.1)

pub figure_again : (z : ℤ) → SFits w64 z → parsed_figure (signed_decimal z) ≡ Some z
figure_again (pos n) fits =
    let (numeral, value) = decimal_is_IsNumeral n (omega (arith, ints, fits)) in
    sym (parse_figure {E = Unit {0}} (decimal n) (Ok (pos n))
    (rw (no_minus (decimal n) numeral, no_plus (decimal n) numeral, value) ((numeral, fits), refl)))
figure_again (negsuc n) fits =
    let (numeral, value) = decimal_is_IsNumeral (suc n) (omega (arith, ints, fits)) in
    sym (parse_figure {E = Unit {0}} (45 ∷ decimal (suc n)) (Ok (negsuc n))
    (rw value ((numeral, fits), refl)))

-- a list at the first item that passes
unfoldable pub none_of : (ℕ → Bool) → List ℕ → Type 0
none_of p [] = Unit {0}
none_of p (x ∷ xs) = (p x ≡ false) × none_of p xs

first_at : (p : ℕ → Bool) (xs : List ℕ) (y : ℕ) (ys : List ℕ) → none_of p xs → p y ≡ true
    → position_or_len p (xs ++ (y ∷ ys)) ≡ length xs
unfolding none_of
first_at p [] y ys none here = rw here refl
first_at p (x ∷ xs) y ys none here = rw none.0 (omega (arith, first_at p xs y ys none.1 here))

pub first_all : (p : ℕ → Bool) (xs : List ℕ) → none_of p xs → position_or_len p xs ≡ length xs
unfolding none_of
first_all p [] none = refl
first_all p (x ∷ xs) none = rw none.0 (omega (arith, first_all p xs none.1))

pub none_append : (p : ℕ → Bool) (xs ys : List ℕ) → none_of p xs → none_of p ys → none_of p (xs ++ ys)
unfolding none_of
none_append p [] ys none more = more
none_append p (x ∷ xs) ys none more = (none.0, none_append p xs ys none.1 more)

before_at : (p : ℕ → Bool) (xs : List ℕ) (y : ℕ) (ys : List ℕ) → none_of p xs → p y ≡ true
    → before_first p (xs ++ (y ∷ ys)) ≡ xs
before_at p xs y ys none here = rw (first_at p xs y ys none here) (grind (arith, common_steps))

drop_at : (xs : List ℕ) (y : ℕ) (ys : List ℕ) → drop (suc (length xs)) (xs ++ (y ∷ ys)) ≡ ys
drop_at [] y ys = refl
drop_at (x ∷ xs) y ys = drop_at xs y ys

after_at : (p : ℕ → Bool) (xs : List ℕ) (y : ℕ) (ys : List ℕ) → none_of p xs → p y ≡ true
    → after_first p (xs ++ (y ∷ ys)) ≡ ys
after_at p xs y ys none here =
    ap (λ at. drop (at + 1) (xs ++ (y ∷ ys))) (first_at p xs y ys none here)
    ∙ ap (λ at. drop at (xs ++ (y ∷ ys))) (add-one (length xs)) ∙ drop_at xs y ys

-- a text is cut at the first such byte
cut_at : (byte : ℕ) (front rest : List ℕ) → none_of (λ b. b == byte) front → (byte == byte) ≡ true
    → cut_of byte (front ++ (byte ∷ rest)) ≡ Some (front, rest)
cut_at byte front rest none here =
    let is : ℕ → Bool = λ b. b == byte in
    let text = front ++ (byte ∷ rest) in
    let place = first_at is front byte rest none here in
    let inside : position_or_len is text < length text = rw place (simp length-append (omega arith)) in
    rw (lt-ltb _ _ inside, before_at is front byte rest none here, after_at is front byte rest none here) refl

no_slash : (ds : List ℕ) → AllDigits 10 ds → none_of (λ b. b == 47) ds
unfolding none_of
no_slash [] digits = tt
no_slash (d ∷ ds) digits =
    let range =
    digit_from_value d digits.0 in (grind (arith, nat_tests, range.0, range.1), no_slash ds digits.1)

plain_append : (xs ys : List ℕ) → is_plain xs ≡ true → is_plain ys ≡ true → is_plain (xs ++ ys) ≡ true
plain_append [] ys p q = q
plain_append (x ∷ xs) ys p q =
    let parts = and_both _ _ p in and_yes _ _ parts.0 (plain_append xs ys parts.1 q)

pub reading_word : (reading : Reading) → reading.kw < 2 ^ 32 → reading.kva < 2 ^ 32
    → is_word (reading_text reading) ≡ true
reading_word reading kw kva =
    let (first, first_digits) = (decimal_is_IsNumeral reading.kw (omega arith)).0 in
    let (second, second_digits) = (decimal_is_IsNumeral reading.kva (omega arith)).0 in
    let some : 0 < length (reading_text reading) = simp length-append (omega arith) in
    word_of (reading_text reading) some
    (plain_append (decimal reading.kw) (47 ∷ decimal reading.kva) (digits_plain _ first_digits)
    (digits_plain _ second_digits))

pub reading_again : (reading : Reading) → reading.kw < 2 ^ 32 → reading.kva < 2 ^ 32
    → parsed_reading (reading_text reading) ≡ Some reading
unfolding reading_between
reading_again reading kw kva =
    let none = no_slash (decimal reading.kw) (decimal_is_IsNumeral reading.kw (omega arith)).0.1 in
    let cut = cut_at 47 (decimal reading.kw) (decimal reading.kva) none refl in
    rw (cut, number_again reading.kw kw, number_again reading.kva kva) refl

-- items one after another
abbrev pub ReadsBack : {X : Type 0} → (List ℕ → Option X) → (X → List ℕ) → List X → Type 0
ReadsBack parse text front =
    (rest : List (List ℕ))
    → (parsed_values parse (map text front ++ rest) ≡ option_map (λ more. front ++ more) (parsed_values parse rest))
    × (are_words (map text front ++ rest) ≡ are_words rest)

module _ {X : Type 0} (parse : List ℕ → Option X) (text : X → List ℕ) where
  onto_none : (r : Option (List X)) → r ≡ option_map (λ more. [] ++ more) r
  onto_none None = refl
  onto_none (Some more) = refl

  pub ReadsBack-none : ReadsBack parse text []
  ReadsBack-none rest = (onto_none (parsed_values parse rest), refl)

  onto_more : (front : List X) (x : X) (r : Option (List X))
      → option_map (λ more. front ++ more) (option_map (λ more. x ∷ more) r)
      ≡ option_map (λ more. (front ++ (x ∷ [])) ++ more) r
  onto_more front x None = refl
  onto_more front x (Some more) = ap Some (sym (append_assoc front (x ∷ []) more))

  pub ReadsBack-more : (front : List X) (x : X) → ReadsBack parse text front → is_word (text x) ≡ true
      → parse (text x) ≡ Some x → ReadsBack parse text (front ++ (x ∷ []))
  ReadsBack-more front x again word parsed rest =
      let shifted =
      ap (λ words. words ++ rest) (map-append text front (x ∷ []))
      ∙ append_assoc (map text front) (text x ∷ []) rest in
      let fact = again (text x ∷ rest) in
      let head =
      ap (λ o. option_and_then (λ item. option_map (λ items. item ∷ items) (parsed_values parse rest)) o)
      parsed in (
        ap (parsed_values parse) shifted ∙ fact.0 ∙ ap (option_map (λ more. front ++ more)) head
            ∙ onto_more front x (parsed_values parse rest),
        ap are_words shifted ∙ fact.1 ∙ ap (λ b. b && are_words rest) word,
      )

  pub ReadsBack-all : (front : List X) → ReadsBack parse text front
      → (are_words (map text front) ≡ true) × (parsed_values parse (map text front) ≡ Some front)
  ReadsBack-all front again =
      let all = again [] in
      let whole = sym (append-nil (map text front)) in
      (ap are_words whole ∙ all.1, ap (parsed_values parse) whole ∙ all.0 ∙ ap Some (append-nil front))

-- the text of words, and of one more
pub words_text_more : (words : List (List ℕ)) (word : List ℕ)
    → words_text (words ++ (word ∷ [])) ≡ words_text words ++ words_text (word ∷ [])
words_text_more words word = flat_map-append (λ (w : List ℕ). 32 ∷ w) words (word ∷ [])
