-- What an accepted call puts on file, and what is on file by all that were accepted: the point, the carried
-- peaks, the months by their numbers from 1, and the quarters and hours of a month from 0.
use Rattle.std.specs.Prelude.{◌≡◌, ℕ, ◌-◌, ◌*◌, ◌<◌, ◌≤◌, Bool, ◌&&◌, List, [], length, is_some, Some, None, ◌==◌, nat_le, slice_get, slice_index, slice_index_or, unwrap_or, if◌then◌else◌}
use Rattle.book.specs.Calls.{opens, starts, posts, posts_day}
use Rattle.book.specs.Views.{BilledPoint, View, is_month, month_at}
use Rattle.store.specs.Months.{hours_of, new_hour, quarters_of}
use Rattle.store.specs.declared.carried.TheConstants.{RATCHET}
use Rattle.store.specs.declared.memory.TheConstants.{DAY_QUARTERS}
use Rattle.store.specs.declared.post.Post.TheVariants.{Reading as OfReading, Price as OfPrice, Scheduled as OfScheduled}
use Rattle.store.specs.declared.post.Reading.{Reading}
use Rattle.audit.specs.Histories.{Saying, Turn, last_said}

-- whether place `there` of month n is this place of month m
abbrev pub is_at : ℕ → ℕ → ℕ → ℕ → Bool
is_at m place n there = n == m && there == place

-- the reading of the quarter: its own, or the one that a day's readings have for it
abbrev pub reading_posted : ℕ → ℕ → Saying Reading
reading_posted m quarter (posts n place (OfReading reading)) _ =
    if is_at m quarter n place then Some reading else None
reading_posted m quarter (posts_day n day code readings) _ =
    let first = DAY_QUARTERS * day in
    if n == m && nat_le first quarter then slice_get readings (quarter - first) else None
reading_posted m quarter _ _ = None

-- the price of the hour
abbrev pub price_posted : ℕ → ℕ → Saying ℕ
price_posted m hour (posts n place (OfPrice price)) _ = if is_at m hour n place then Some price else None
price_posted m hour _ _ = None

-- the scheduled kW of the hour
abbrev pub scheduled_posted : ℕ → ℕ → Saying ℕ
scheduled_posted m hour (posts n place (OfScheduled kw)) _ = if is_at m hour n place then Some kw else None
scheduled_posted m hour _ _ = None

-- the point that the book was opened for
abbrev pub point_opened : Saying BilledPoint
point_opened (opens code contract substation carried) _ =
    Some (record { code = code; contract = contract; substation = substation })
point_opened _ _ = None

-- the peaks that were carried into the book, the latest first
abbrev pub peaks_carried : Saying (List ℕ)
peaks_carried (opens code contract substation carried) _ = Some carried
peaks_carried _ _ = None

-- the days of the month, by the start that answered its number
abbrev pub days_started : ℕ → Saying ℕ
days_started m (starts days) number = if number == m then Some days else None
days_started m _ _ = None

-- a book has on file what the accepted calls of the turns put there last, and nothing else
pub record HoldsLastPosts (turns : List Turn) (v : View) : Type 0 where
  pub point : v.point ≡ last_said point_opened turns
  -- the 24 months before month 1, the oldest first, have the carried peaks, the latest first, and else 0
  pub before : length v.before ≡ RATCHET
  pub carried : (i : ℕ) → i < RATCHET
      → slice_index v.before (RATCHET - 1 - i) ≡ slice_index (unwrap_or (last_said peaks_carried turns) []) i
  pub started : (m : ℕ) → 1 ≤ m → is_month m v ≡ is_some (last_said (days_started m) turns)
  pub days : (m : ℕ) → 1 ≤ m → (month_at m v).days ≡ unwrap_or (last_said (days_started m) turns) 0
  -- a month has its days' quarters and hours, and no others
  pub quarters : (m : ℕ) → 1 ≤ m → length (month_at m v).readings ≡ quarters_of (month_at m v).days
  pub hours : (m : ℕ) → 1 ≤ m → length (month_at m v).hours ≡ hours_of (month_at m v).days
  -- each with what was posted to it last; with no reading, no price and 0 kW where nothing was
  pub readings : (m quarter : ℕ) → 1 ≤ m
      → slice_index_or (month_at m v).readings quarter None ≡ last_said (reading_posted m quarter) turns
  pub prices : (m hour : ℕ) → 1 ≤ m
      → (slice_index_or (month_at m v).hours hour new_hour).price ≡ last_said (price_posted m hour) turns
  pub scheduled : (m hour : ℕ) → 1 ≤ m
      → (slice_index_or (month_at m v).hours hour new_hour).scheduled
      ≡ unwrap_or (last_said (scheduled_posted m hour) turns) 0
