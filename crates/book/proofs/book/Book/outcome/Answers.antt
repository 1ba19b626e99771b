use Rattle.std.proofs.Common.{◌≡◌, ℕ, List, get_or, Err, ap, ap₂, ◌∙◌}
use Rattle.std.proofs.lemmas.Result.{err_from_is_err_and}
use Rattle.store.specs.Months.{hour_rows, no_month}
use Rattle.store.specs.Stores.{month_in}
use Rattle.tariff.specs.Pricing.{Meaning, plain_amounts}
use Rattle.tariff.specs.declared.facts.PlainFacts.{PlainFacts}
use Rattle.tariff.specs.declared.hours.HourRow.{HourRow}
use Rattle.book.specs.Books.{view}
use Rattle.book.specs.Views.{View, facts_of, month_index, month_outcome}
use Rattle.book.proofs.book.Book.outcome.Goals as goal

-- what the schedule was asked is what the file gives
asked : (meaning : Meaning) (v : View) (m at : ℕ) (facts : PlainFacts) (rows hours : List HourRow)
    → facts ≡ facts_of v m → rows ≡ hours → hours ≡ hour_rows (get_or v.months at no_month)
    → at ≡ month_index m → meaning facts rows ≡ month_outcome meaning v m
unfolding month_outcome
asked meaning v m at facts rows hours made lent filled is =
    ap₂ meaning made (lent ∙ filled ∙ ap (λ k. hour_rows (get_or v.months k no_month)) is)

pub returns-in_err-amounts : goal.returns-in_err-amounts
returns-in_err-amounts g c =
    let named = c.args.named.now in
    let hours = c.hours-month_hours.ensures ∙ ap (λ file. hour_rows (month_in file named.index)) c.on_file.ensures in
    let failed = err_from_is_err_and c.from_residual.result c.from_residual.ensures.1 in
    ap plain_amounts failed.1 ∙ ap Err failed.2
    ∙ (c.in_err-amounts.ensures ∙ asked _ (view c.args.self.now) named.month _ _ _ _ c.facts-facts.ensures c.hours.ensures hours c.requires.index)

pub returns : goal.returns
returns g c =
    let named = c.args.named.now in
    let hours = c.hours-month_hours.ensures ∙ ap (λ file. hour_rows (month_in file named.index)) c.on_file.ensures in
    c.in_ok-amounts.ensures
    ∙ asked _ (view c.args.self.now) named.month _ _ _ _ c.facts-facts.ensures c.hours.ensures hours c.requires.index
