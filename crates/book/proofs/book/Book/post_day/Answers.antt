use Rattle.std.proofs.Common.{◌≡◌, true, leb, ◌⊎◌, inl, inr, arith, sym, refl, ap, ◌∙◌, rules}
use Rattle.std.proofs.lemmas.Bool.{le-leb}
use Rattle.store.specs.Posts.{day_fault, month_with_day, post_day_answer}
use Rattle.book.specs.Books.{view}
use Rattle.book.specs.Calls.{posts_day}
use Rattle.book.specs.PointCodes.{code_bytes}
use Rattle.book.specs.Posts.{post_refusal}
use Rattle.book.specs.Table.{day_rows, is_code_of}
use Rattle.book.specs.Views.{month_at}
use Rattle.book.proofs.Exits.{is_refused_by, not_final_passes}
use Rattle.book.proofs.Left.{answered, filed_alike, kept_left}
use Rattle.book.proofs.Posted.{day_rows_say, month_found, performs_post, refusal_in, unbilled_posted}
use Rattle.book.proofs.book.Book.post_day.Goals as goal
use Rattle.book.proofs.book.Book.post_day.Goals.{else-day-from-via-then-day-from+else-not-has_code, else-day-from-via-else-day-from}

pub returns-in_err-named : goal.returns-in_err-named
returns-in_err-named c meaning =
    is_refused_by meaning (posts_day c.args.month c.args.day (code_bytes c.args.code) c.args.readings.now) c.args.self.now c.from_residual.result _ c.from_residual.ensures.1 (c.in_err-named.ensures (day_rows c.args.month c.args.day (code_bytes c.args.code) c.args.readings.now (view c.args.self.now)))

-- the day is not there, or the code is the point's
day_or_code : (c : goal.After-map_err)
    → let v = view c.args.self.now in
    (leb (month_at c.args.month v).days c.args.day ≡ true) ⊎ (is_code_of (code_bytes c.args.code) v.point ≡ true)
day_or_code c =
    let is = c.in_ok-named.ensures.0 in
    elim c.else-day-from.branch [
      | else-day-from-via-then-day-from+else-not-has_code w ↦
          inr (ap (is_code_of (code_bytes c.args.code)) is.point ∙ sym w.has_code.ensures ∙ search rules)
      | else-day-from-via-else-day-from w ↦ inl (le-leb _ _ (omega (arith, w.if-day-from.false, is.days)))
    ]

pub returns : goal.returns
returns c meaning =
    let m = c.args.month in
    let day = c.args.day in
    let code = code_bytes c.args.code in
    let readings = c.args.readings.now in
    let book = c.args.self.now in
    let v = view book in
    let found = c.in_ok-named.named in
    let is = c.in_ok-named.ensures in
    let memory = c.post_day.ensures.memory in
    performs_post meaning (posts_day m day code readings)
    (search rules) (search (rules, memory)) (search rules) refl refl refl (search rules)
    m day found.index (month_with_day day readings) tt c.post_day.result c.map_err.result
    (answered (post_refusal m day) _ c.post_day.result c.map_err.result c.map_err.ensures.cases (λ error refusal made. search rules))
    (not_final_passes m v found is (day_rows m day code readings v)
    ∙ day_rows_say m day (leb (month_at m v).days day) (is_code_of code v.point) (day_fault readings) (day_or_code c)
    ∙ ap (refusal_in m day) (sym (c.post_day.ensures.result ∙ ap (λ month. post_day_answer month day readings) (month_found book _ m found.index is.0.index))))
    refl refl is.0.index c.post_day.ensures.posted c.post_day.ensures.refused

pub invariant_of-self : goal.invariant_of-self
invariant_of-self c =
    let book = c.args.self.now in
    let memory = c.post_day.ensures.memory in
    kept_left c.post_day.new.self (search (rules, memory)) (search (rules, memory)) _ _ book.ledgered
    (unbilled_posted book _ _ (filed_alike book _) c.in_ok-named.named.index (month_with_day c.args.day c.args.readings.now) (λ month. refl) c.post_day.result c.post_day.ensures.posted c.post_day.ensures.refused)
