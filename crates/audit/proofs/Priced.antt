-- What a billed month's entries add up to over a run: what was priced at its latest accepted bill or true-up.
use Rattle.std.proofs.Common.{◌≡◌, ℕ, ◌+◌, ◌<◌, Bool, true, false, cond, inl, inr, ◌&&◌, eqb, List, [], ◌∷◌, length, get_or, ℤ, pos, Some, None, Ok, Err, MatchBool, Option, sym, refl, ap, ◌∙◌, arith}
use Rattle.std.proofs.lemmas.List.FromFn.{get_or-map-range_with_len, length-map-range_with_len}
use Rattle.std.proofs.lemmas.Int.{ints}
use Rattle.std.proofs.lemmas.Bool.{and_from, eq-eqb, eqb-false, eqb-true}
use Rattle.std.proofs.lemmas.Option.{none-some}
use Rattle.book.specs.Calls.{Call, bills, trues_up}
use Rattle.book.specs.Steps.{view_after, step}
use Rattle.book.specs.Table.{bill_entries, is_fault, refusal_of}
use Rattle.book.specs.Views.{View, amounts_in, month_outcome}
use Rattle.ledger.specs.Entries.{line_sum}
use Rattle.ledger.specs.declared.entry.EntryKind.TheVariants.{Bill, TrueUp}
use Rattle.ledger.proofs.Sums.{entries_for_line, line_sum_append, written_sum}
use Rattle.tariff.specs.Limits.{line_count}
use Rattle.tariff.specs.Pricing.{Meaning, Outcome}
use Rattle.audit.specs.Histories.{HasAccepted, history}
use Rattle.audit.specs.Laws.{IsLatestPricing}
use Rattle.std.specs.Option.{option_or}
use Rattle.audit.specs.Runs.{is_accepted, view_at_pricing, view_after_calls, is_pricing_of}
use Rattle.audit.proofs.Sound.{Sound, kept, written_elsewhere}
use Rattle.audit.proofs.Table.{billing, by_step, truing}

pub length_amounts : (outcome : Outcome) → is_fault outcome ≡ false → length (amounts_in outcome) ≡ line_count
unfolding amounts_in
length_amounts (Ok cents) e = length-map-range_with_len (λ i. get_or cents i (pos 0)) 0 line_count
length_amounts (Err fault) e = cc

pub amounts_line : (outcome : Outcome) (cents : List ℤ) (i : ℕ) → outcome ≡ Ok cents → i < line_count
    → get_or (amounts_in outcome) i (pos 0) ≡ get_or cents i (pos 0)
unfolding amounts_in
amounts_line outcome cents i e here =
    ap (λ o. get_or (amounts_in o) i (pos 0)) e ∙ get_or-map-range_with_len (λ i. get_or cents i (pos 0)) 0 line_count i i (pos 0) here (omega arith)

pub priced_at : (outcome : Outcome) → is_fault outcome ≡ false → (cents : List ℤ) × (outcome ≡ Ok cents)
priced_at (Ok cents) e = (cents, refl)
priced_at (Err fault) e = ([], cc)

-- w holds what was written for the month at the book u
pub record Stands (meaning : Meaning) (u : View) (m : ℕ) (w : View) : Type 0 where
  pub cents : List ℤ
  pub amounts : month_outcome meaning u m ≡ Ok cents
  pub sums : (i : ℕ) → i < line_count → line_sum w.ledger m (i + 1) ≡ get_or cents i (pos 0)

-- the month was not priced from v to w
abbrev pub Unpriced : View → ℕ → View → Type 0
Unpriced v m w = (l : ℕ) → line_sum w.ledger m l ≡ line_sum v.ledger m l

module _ (meaning : Meaning) (m : ℕ) (v : View) where
  bill_stands : Sound meaning v → refusal_of meaning (bills m) v ≡ None
      → Stands meaning v m (view_after meaning (bills m) v)
  bill_stands sound e =
      let h = billing meaning v m e in
      let found = priced_at (month_outcome meaning v m) h.prices in
      record {
        cents = found.0;
        amounts = found.1;
        sums = λ i here.
            let both = line_sum_append v.ledger (bill_entries meaning v m) m (i + 1) in
            let none = sound.unbilled m (i + 1) h.names.low h.unbilled in
            let new = entries_for_line Bill m (amounts_in (month_outcome meaning v m)) i ∙ amounts_line (month_outcome meaning v m) found.0 i found.1 here in
            omega (arith, ints);
      }

  true_up_stands : refusal_of meaning (trues_up m) v ≡ None
      → Stands meaning v m (view_after meaning (trues_up m) v)
  true_up_stands e =
      let h = truing meaning v m e in
      let found = priced_at (month_outcome meaning v m) h.prices in
      record {
        cents = found.0;
        amounts = found.1;
        sums = λ i here.
            written_sum TrueUp v.ledger m (amounts_in (month_outcome meaning v m)) (length_amounts (month_outcome meaning v m) h.prices) i here
            ∙ amounts_line (month_outcome meaning v m) found.0 i found.1 here;
      }

never_taken : (b : Bool) (P Q : Type 0) → Q → MatchBool (b && false) P Q
never_taken true P Q q = q
never_taken false P Q q = q

if_taken : (b : Bool) (P Q : Type 0) → (b ≡ true → P) → (b ≡ false → Q) → MatchBool (b && true) P Q
if_taken true P Q p q = p refl
if_taken false P Q p q = q refl

priced_after : (meaning : Meaning) (call : Call) (m : ℕ) (v : View) → Sound meaning v
    → refusal_of meaning call v ≡ None
    → MatchBool (is_pricing_of m call && true) (Stands meaning v m (view_after meaning call v)) (Unpriced v m (view_after meaning call v))
priced_after meaning (bills n) m v sound e =
    if_taken (eqb n m) (Stands meaning v m (view_after meaning (bills n) v)) (Unpriced v m (view_after meaning (bills n) v))
    (λ same. rw (sym (eqb-true n m same)) (bill_stands meaning n v sound e))
    (λ differs l. written_elsewhere Bill v.ledger n _ m l (λ same. eqb-false n m differs (sym same)))
priced_after meaning (trues_up n) m v sound e =
    if_taken (eqb n m) (Stands meaning v m (view_after meaning (trues_up n) v)) (Unpriced v m (view_after meaning (trues_up n) v))
    (λ same. rw (sym (eqb-true n m same)) (true_up_stands meaning n v e))
    (λ differs l. written_elsewhere TrueUp v.ledger n _ m l (λ same. eqb-false n m differs (sym same)))
priced_after meaning _ m v sound e = λ l. refl

priced_step : (meaning : Meaning) (call : Call) (m : ℕ) (v : View) → Sound meaning v
    → MatchBool (is_pricing_of m call && is_accepted meaning call v) (Stands meaning v m (step meaning call v)) (Unpriced v m (step meaning call v))
priced_step meaning call m v sound =
    by_step meaning call v (λ w taken. MatchBool (is_pricing_of m call && taken) (Stands meaning v m w) (Unpriced v m w))
    (never_taken (is_pricing_of m call) (Stands meaning v m v) (Unpriced v m v) (λ l. refl))
    (priced_after meaning call m v sound)

-- what the latest pricing of a run from v to w wrote stands; where there was none, nothing has moved
abbrev Upheld : Meaning → View → ℕ → View → Option View → Type 0
Upheld meaning v m w (Some u) = Stands meaning u m w
Upheld meaning v m w None = Unpriced v m w

upheld_more : (meaning : Meaning) (m : ℕ) (v u w : View) (later : Option View) (b : Bool)
    → Upheld meaning u m w later → MatchBool b (Stands meaning v m u) (Unpriced v m u)
    → Upheld meaning v m w (option_or later (cond b (Some v) None))
upheld_more meaning m v u w (Some stood) b later now = later
upheld_more meaning m v u w None true later now =
    record { cents = now.cents; amounts = now.amounts; sums = λ i here. later (i + 1) ∙ now.sums i here }
upheld_more meaning m v u w None false later now = λ l. later l ∙ now l

pub upheld : (meaning : Meaning) (calls : List Call) (m : ℕ) (v : View) → Sound meaning v
    → Upheld meaning v m (view_after_calls meaning calls v) (view_at_pricing meaning calls v m)
upheld meaning [] m v sound = λ l. refl
upheld meaning (call ∷ calls) m v sound =
    let u = step meaning call v in
    upheld_more meaning m v u (view_after_calls meaning calls u) (view_at_pricing meaning calls u m) (is_pricing_of m call && is_accepted meaning call v)
    (upheld meaning calls m u (kept meaning call v sound).sound)
    (priced_step meaning call m v sound)

-- a month that was billed was priced
or_none : {X : Type 0} (later sooner : Option X) → option_or later sooner ≡ None → (later ≡ None) × (sooner ≡ None)
or_none None sooner e = (refl, e)
or_none (Some x) sooner e = (cc, cc)

taken_some : (b : Bool) (v : View) → b ≡ true → cond b (Some v) None ≡ None → ⊥
taken_some b v taken none = none-some v (sym none ∙ rw taken refl)

was_priced : (meaning : Meaning) (calls : List Call) (m : ℕ) (v : View)
    → HasAccepted (bills m) (history meaning calls v) → view_at_pricing meaning calls v m ≡ None → ⊥
was_priced meaning [] m v never none = never
was_priced meaning (call ∷ calls) m v made none =
    let u = step meaning call v in
    let both = or_none (view_at_pricing meaning calls u m) _ none in
    elim made [
      | inl now ↦
          let pricing = ap (is_pricing_of m) now.0 ∙ eq-eqb m m refl in
          taken_some (is_pricing_of m call && is_accepted meaning call v) v (and_from _ _ pricing now.1) both.1
      | inr later ↦ was_priced meaning calls m u later both.0
    ]

latest_from : (meaning : Meaning) (calls : List Call) (m : ℕ) (v w : View) (found : Option View)
    → view_at_pricing meaning calls v m ≡ found → Upheld meaning v m w found → (found ≡ None → ⊥)
    → (cents : List ℤ) × IsLatestPricing meaning calls v m cents
latest_from meaning calls m v w (Some u) is held some = (held.cents, record { stood = u; latest = is; amounts = held.amounts })
latest_from meaning calls m v w None is held some = elim (some refl) [ ]

pub priced_once : (meaning : Meaning) (calls : List Call) (m : ℕ) (v : View) → Sound meaning v
    → HasAccepted (bills m) (history meaning calls v) → (cents : List ℤ) × IsLatestPricing meaning calls v m cents
priced_once meaning calls m v sound made =
    latest_from meaning calls m v (view_after_calls meaning calls v) (view_at_pricing meaning calls v m) refl (upheld meaning calls m v sound) (was_priced meaning calls m v made)

-- and its entries add up to that
pub latest_sums : (meaning : Meaning) (calls : List Call) (m : ℕ) (v : View) → Sound meaning v
    → (cents : List ℤ) → IsLatestPricing meaning calls v m cents → (i : ℕ) → i < line_count
    → line_sum (view_after_calls meaning calls v).ledger m (i + 1) ≡ get_or cents i (pos 0)
latest_sums meaning calls m v sound cents latest i here =
    let stands : Stands meaning latest.stood m (view_after_calls meaning calls v) = rw latest.latest at (upheld meaning calls m v sound) in
    let same : stands.cents ≡ cents = cc (stands.amounts, latest.amounts) in
    stands.sums i here ∙ ap (λ cents. get_or cents i (pos 0)) same
