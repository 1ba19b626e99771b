-- An entry's line, laid at the front of lent bytes piece by piece, and how long it can be.
use Rattle.std.proofs.Common.{rules, ◌≡◌, ℕ, ◌+◌, ◌<◌, ◌≤◌, true, get_or, ℤ, pos, negsuc, unsigned_abs, List, [], ◌++◌, codes, decimal, drop, length, take, refl, ap, subst, sym, ◌∙◌, arith}
use Rattle.std.specs.Fmt.{signed_decimal}
use Rattle.std.proofs.lemmas.List.{append_assoc, drop_at, drop-drop, length-append, length-drop, take_at}
use lib.Signed.{mag}
use borrow.Rule.Slice.PartMut.{put_mid}
use Rattle.std.proofs.lemmas.Bool.Decides.{nat_tests}
use Rattle.std.proofs.lemmas.Fmt.{length_signed_le}
use Rattle.std.proofs.lemmas.Int.{ints}
use Rattle.ledger.specs.Entries.{SumsWithin, is_for}
use Rattle.ledger.specs.Texts.{IsLaid, entry_line, kind_letter, most_owed}
use Rattle.ledger.specs.declared.entry.TheConstants.Entry.{UNWRITTEN}
use Rattle.ledger.specs.declared.entry.EntryKind.{EntryKind}
use Rattle.ledger.specs.declared.entry.EntryKind.TheVariants.{Bill, TrueUp}
use Rattle.ledger.proofs.Turns.{line_sum_more}
use Rattle.ledger.specs.declared.entry.Entry.{Entry}

module _ (text before bytes more : List ℕ) (at : ℕ) (laid : IsLaid text before at bytes) where
  -- a text put behind what is laid
  pub laid_more : (k next : ℕ) → k ≡ length more → next ≡ at + length more → next ≤ length bytes
      → IsLaid (text ++ more) before next (put_mid at k bytes more)
  laid_more k next is end room =
      let past = drop (length text) before in
      let both = length-append text more in
      let whole : length bytes ≡ length before = omega (arith, ap length laid.now, laid.ends, laid.within, length-append text past, length-drop (length text) before) in
      let kept : take at bytes ≡ text = ap (take at) laid.now ∙ take_at text past at (sym laid.ends) in
      let rest : drop at bytes ≡ past = ap (drop at) laid.now ∙ drop_at text past at (sym laid.ends) in
      let after : drop k past ≡ drop (length (text ++ more)) before = drop-drop k (length text) before ∙ ap (λ n. drop n before) (omega (arith, both)) in
      record {
        ends = omega (arith, laid.ends, both);
        within = omega (arith, whole);
        now = rw (kept, rest, after) (sym (append_assoc text more (drop (length (text ++ more)) before)));
      }

pub nothing_laid : (before : List ℕ) → IsLaid [] before 0 before
nothing_laid before = record { ends = refl; within = omega arith; now = refl }

in_line : (month kind line cents space end : List ℕ)
    → ((((((month ++ space) ++ kind) ++ space) ++ line) ++ space) ++ cents) ++ end ≡ (month ++ (space ++ (kind ++ (space ++ (line ++ (space ++ cents)))))) ++ end
in_line month kind line cents space end = search (rules, append_assoc)

-- the pieces of an entry's line, one behind the other
pub line_laid : (entry : Entry) (before bytes month kind line cents : List ℕ) (at : ℕ)
    → month ≡ decimal entry.month → kind ≡ kind_letter entry.kind → line ≡ decimal entry.line
    → cents ≡ signed_decimal entry.cents
    → IsLaid (((((((month ++ codes " ") ++ kind) ++ codes " ") ++ line) ++ codes " ") ++ cents) ++ codes "\n") before at bytes
    → IsLaid (entry_line entry) before at bytes
line_laid entry before bytes month kind line cents at is_month is_letter is_line is_cents laid =
    let whole = in_line month kind line cents (codes " ") (codes "\n") in
    let is : ((((((month ++ codes " ") ++ kind) ++ codes " ") ++ line) ++ codes " ") ++ cents) ++ codes "\n" ≡ entry_line entry = whole ∙ rw (is_month, is_letter, is_line, is_cents) refl in
    subst (λ text. IsLaid text before at bytes) is laid

-- an entry takes a sum within the limit of an amount to one within it
pub owed_within : (entries : List Entry) → SumsWithin entries → (i : ℕ) → i < length entries
    → unsigned_abs (get_or entries i UNWRITTEN).cents ≤ most_owed
owed_within entries within i here =
    let entry = get_or entries i UNWRITTEN in
    let counts : is_for entry.month entry.line entry ≡ true = grind (arith, nat_tests) in
    let more = line_sum_more entries i here entry.month entry.line true counts in
    let before = within i entry.month entry.line in
    let after = within (i + 1) entry.month entry.line in
    omega (arith, ints)

mag_few : (cents : ℤ) → mag cents ≤ unsigned_abs cents
mag_few (pos n) = omega arith
mag_few (negsuc n) = omega arith

letter_is_one : (kind : EntryKind) → length (kind_letter kind) ≡ 1
letter_is_one Bill = refl
letter_is_one TrueUp = refl

-- one letter; a sign and twelve digits
pub pieces_fit : (entry : Entry) (kind cents : List ℕ) → unsigned_abs entry.cents ≤ most_owed
    → kind ≡ kind_letter entry.kind → cents ≡ signed_decimal entry.cents
    → (length kind ≡ 1) × (length cents ≤ 13)
pieces_fit entry kind cents owed is_letter is_cents =
    let size = mag_few entry.cents in
    (ap length is_letter ∙ letter_is_one entry.kind, rw is_cents (length_signed_le 12 entry.cents (omega arith) (omega arith)))
