-- What is posted to a month: the places that it has for it, the limits, what is answered, and the month with
-- it on file. A further kind of post is one line in each table.
use Rattle.std.specs.Prelude.{ℕ, Bool, ◌&&◌, not, ◌==◌, if◌then◌else◌, List, [], ◌∷◌, map, length, Some, None, Option, Ok, Err, Result, nat_le, nat_lt, slice_index_or, slice_set}
use Rattle.std.specs.List.{prefix_len}
use Rattle.std.proofs.lemmas.List.Edits.{sets}
use Rattle.tariff.specs.Limits.{most_demand}
use Rattle.tariff.specs.declared.limits.TheConstants.{MOST_PRICE}
use Rattle.store.specs.Months.{HourOnFile, Month, hours_of, new_hour, quarters_of}
use Rattle.store.specs.declared.memory.TheConstants.{DAY_QUARTERS}
use Rattle.store.specs.declared.post.Post.{Post}
use Rattle.store.specs.declared.post.Post.TheVariants.{Reading as OfReading, Price as OfPrice, Scheduled as OfScheduled}
use Rattle.store.specs.declared.post.PostError.{PostError}
use Rattle.store.specs.declared.post.PostError.TheVariants.{NoSuchPlace, OutsideLimit}
use Rattle.store.specs.declared.post.Reading.{Reading}

abbrev pub reading_within : Reading → Bool
reading_within reading = nat_le reading.kw reading.kva && nat_le reading.kva most_demand

-- how many places a month of so many days has for a post
abbrev pub post_places : Post → ℕ → ℕ
post_places (OfReading _) days = quarters_of days
post_places _ days = hours_of days

-- whether what is posted lies within its limit
abbrev pub post_within : Post → Bool
post_within (OfReading reading) = reading_within reading
post_within (OfPrice price) = nat_le price MOST_PRICE
post_within (OfScheduled kw) = nat_le kw most_demand

abbrev pub with_readings : ℕ → List Reading → Month → Month
with_readings from readings month = record month { readings = sets month.readings from (map Some readings) }

abbrev pub with_hour : ℕ → (HourOnFile → HourOnFile) → Month → Month
with_hour hour alter month =
    record month { hours = slice_set month.hours hour (alter (slice_index_or month.hours hour new_hour)) }

-- a month with a post at a place on file: the last post for a place stands
abbrev pub month_with_post : ℕ → Post → Month → Month
month_with_post quarter (OfReading reading) = with_readings quarter (reading ∷ [])
month_with_post hour (OfPrice price) = with_hour hour (λ old. record old { price = Some price })
month_with_post hour (OfScheduled kw) = with_hour hour (λ old. record old { scheduled = kw })

abbrev pub post_answer : Month → ℕ → Post → Result Unit PostError
post_answer month place post =
    if nat_le (post_places post month.days) place then Err NoSuchPlace
    else if not (post_within post) then Err (OutsideLimit 0)
    else Ok tt

-- the first reading outside its limits; 96, before that, where there are not 96
abbrev pub day_fault : List Reading → Option ℕ
day_fault readings =
    let good = prefix_len reading_within readings in
    if not (length readings == DAY_QUARTERS) then Some DAY_QUARTERS
    else if nat_lt good DAY_QUARTERS then Some good
    else None

abbrev pub month_with_day : ℕ → List Reading → Month → Month
month_with_day day readings = with_readings (quarters_of day) readings

abbrev pub fault_answer : Option ℕ → Result Unit PostError
fault_answer (Some place) = Err (OutsideLimit place)
fault_answer None = Ok tt

abbrev pub post_day_answer : Month → ℕ → List Reading → Result Unit PostError
post_day_answer month day readings =
    if nat_le month.days day then Err NoSuchPlace else fault_answer (day_fault readings)
