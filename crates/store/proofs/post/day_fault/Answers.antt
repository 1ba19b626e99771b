use Rattle.std.proofs.Common.{◌≡◌, ℕ, ◌<◌, not, List, length, Some, None, Option, refl, ◌∙◌, arith, rules, tests}
use Rattle.std.specs.Prelude.{IfNone, MatchOption}
use Rattle.std.specs.List.{position, prefix_len}
use Rattle.std.proofs.lemmas.Iterator.{YieldsList-from_slice}
use Rattle.std.proofs.lemmas.Iterator.Search.{position_from_yields_List}
use Rattle.store.specs.Posts.{day_fault, reading_within}
use Rattle.store.specs.declared.memory.TheConstants.{DAY_QUARTERS}
use Rattle.store.specs.declared.post.Reading.{Reading}
use Rattle.store.proofs.Windows.{leading_not, position_fails}
use Rattle.store.proofs.post.day_fault.Goals as goal

fault_found : (readings : List Reading) (found : Option ℕ) → length readings ≡ DAY_QUARTERS
    → found ≡ position (λ reading. not (reading_within reading)) readings → found ≡ day_fault readings
fault_found readings found counted is = is ∙ rw (leading_not reading_within readings, counted) refl

none_outside : (readings : List Reading) (found : Option ℕ)
    → MatchOption found (prefix_len reading_within readings ≡ length readings)
    (λ i. (prefix_len reading_within readings ≡ i) × (i < length readings))
    → IfNone found (prefix_len reading_within readings ≡ length readings)
none_outside readings (Some place) at = tt
none_outside readings None all = all

pub returns-clause-fault : goal.returns-clause-fault
returns-clause-fault c =
    let readings = c.args.readings.now in
    let found = position_from_yields_List
    (λ reading. not (reading_within reading)) _ _ c.position.result c.position.ensures.ran
    (YieldsList-from_slice readings cc) (λ x b q k. search (rules, tests)) in
    fault_found readings c.position.result (omega arith) found

pub returns-clause-within : goal.returns-clause-within
returns-clause-within c =
    let readings = c.args.readings.now in
    let found = position_from_yields_List
    (λ reading. not (reading_within reading)) _ _ c.position.result c.position.ensures.ran
    (YieldsList-from_slice readings cc) (λ x b q k. search (rules, tests)) in
    none_outside readings c.position.result (position_fails reading_within readings c.position.result found)
