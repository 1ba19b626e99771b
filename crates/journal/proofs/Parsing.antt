-- What `parse` gives is what a word says.
use Rattle.std.proofs.Common.{◌≡◌, ℕ, ◌-◌, ◌^◌, ◌<◌, ◌==◌, Bool, true, false, cond, List, length, ℤ, pos, neg_ℤ, nat_le, nat_lt, Option, Some, None, MatchOption, Bor, Result, Ok, Err, refl, arith, w64, SFits}
use Rattle.std.specs.Bool.{Decides}
use Rattle.std.specs.Result.{OkIff, result_ok}
use Rattle.std.specs.Str.{all_ascii_digits}
use Rattle.std.specs.Str.Parse.{IsNumeral, ParsesSigned, ParsesUnsigned, digits_value, signed_digits_value, starts_with_minus, without_leading_plus, without_leading_sign}
use Rattle.std.proofs.lemmas.Bool.{le-leb, leb-true}
use Rattle.std.proofs.lemmas.Bool.Decides.{Decides-and, Decides-ltb, nat_tests}
use Rattle.std.proofs.lemmas.Int.{ints}
use Rattle.std.proofs.lemmas.Str.Parse.{IsNumeralModel, numerals_by_value, tells_all_ascii_digits}
use Rattle.std.specs.List.{position_or_len}
use Rattle.std.proofs.lemmas.Str.Pattern.{IsSplitOnceResult, split_once_first}
use Rattle.journal.specs.Tokens.{are_digits, cut_of, parsed_figure, parsed_number}

own : IsNumeralModel (λ ds. all_ascii_digits ds ≡ true) (digits_value 10)
own = numerals_by_value _ tells_all_ascii_digits

digits_decided : (digits : List ℕ) → Decides (are_digits digits) (IsNumeral 10 digits)
digits_decided digits = Decides-and _ _ (Decides-ltb 0 (length digits)) (own.to digits, own.from digits)

ok_where : {X E P : Type 0} (r : Result X E) (x : X) (test : Bool) → Decides test P → OkIff r P x
    → result_ok r ≡ cond test (Some x) None
ok_where (Ok y) x test decides (holds, is) = rw (decides.1 holds, is) refl
ok_where (Err e) x true decides lacks = absurd (lacks (decides.0 refl))
ok_where (Err e) x false decides lacks = refl

pub parse_number : {E : Type 0} (word : List ℕ) (r : Result ℕ E) → ParsesUnsigned 32 10 word r
    → result_ok r ≡ parsed_number word
unfolding parsed_number
parse_number word r parses =
    let digits = without_leading_plus word in
    let fits = Decides-ltb (digits_value 10 digits) (2 ^ 32) in
    ok_where r (digits_value 10 digits) _ (Decides-and _ _ (digits_decided digits) fits) parses

figure_fits : (minus : Bool) (value : ℕ)
    → Decides (nat_le value (cond minus (2 ^ 63) (2 ^ 63 - 1)))
    (SFits w64 (cond minus (neg_ℤ (pos value)) (pos value)))
figure_fits true value =
    (λ yes. omega (arith, ints, leb-true _ _ yes), λ fits. le-leb _ _ (omega (arith, ints, fits)))
figure_fits false value =
    (λ yes. omega (arith, ints, leb-true _ _ yes), λ fits. le-leb _ _ (omega (arith, ints, fits)))

pub parse_figure : {E : Type 0} (word : List ℕ) (r : Result ℤ E) → ParsesSigned w64 10 word r
    → result_ok r ≡ parsed_figure word
unfolding parsed_figure
parse_figure word r parses =
    let digits = without_leading_sign word in
    let fits = figure_fits (starts_with_minus word) (digits_value 10 digits) in
    ok_where r (signed_digits_value 10 word) _ (Decides-and _ _ (digits_decided digits) fits) parses

-- what `split_once` gives is a cut
pub split_once-cut : (byte : ℕ) (text : List ℕ) (r : Option (Bor (List ℕ) × Bor (List ℕ)))
    → IsSplitOnceResult byte text r → byte < 128
    → MatchOption r (cut_of byte text ≡ None) (λ parts. cut_of byte text ≡ Some (parts.0.now, parts.1.now))
split_once-cut byte text (Some parts) split ascii =
    let (here, front, after) = split_once_first byte text (Some parts) split ascii in
    rw (front, after, (Decides-ltb (position_or_len (λ b. b == byte) text) (length text)).1 here) refl
split_once-cut byte text None split ascii =
    let none = split_once_first byte text None split ascii in
    let past : nat_lt (position_or_len (λ b. b == byte) text) (length text) ≡ false =
    grind (arith, nat_tests) in
    rw past refl
