use Rattle.std.proofs.Common.{◌≡◌, Ok, rules}
use Rattle.tariff.specs.Limits.{FactsWithin, RowsWithin}
use Rattle.tariff.specs.Pricing.{pricing}
use Rattle.tariff.specs.declared.refusal.Refusal.TheVariants.{OutsideLimit}
use Rattle.exports.specs.declared.failure.Failure.TheVariants.{Refused}
use Rattle.exports.specs.Piles.{sheets_meaning}
use Rattle.exports.specs.Prices.{FailsToPrice, facts_outside, hours_outside, no_pile, refused}
use Rattle.exports.proofs.price.price_month.Goals as goal

pub returns-in_err-pile : goal.returns-in_err-pile
returns-in_err-pile c = search (rules, no_pile)

pub returns-in_err-facts : goal.returns-in_err-facts
returns-in_err-facts c = search (rules, facts_outside)

pub returns-in_err-hours : goal.returns-in_err-hours
returns-in_err-hours c =
    let facts_within : FactsWithin c.args.facts.now = search rules in
    let pile = c.in_ok-pile.pile in
    let hours = c.args.hours.now in
    let outside : ¬ RowsWithin hours
    → FailsToPrice c.args.rate.now c.args.riders.now c.args.facts.now hours (Refused (OutsideLimit 0 0))
    = hours_outside pile.schedule pile.riders.items c.in_ok-pile.ensures facts_within in
    search (rules, outside)

pub returns-in_err-price : goal.returns-in_err-price
returns-in_err-price c = search (rules, refused)

pub returns : goal.returns
returns c =
    let pile = c.in_ok-pile.pile in
    let meaning = sheets_meaning pile.schedule pile.riders.items in
    let cents = c.in_ok-price.field-0.cents in
    let priced : pricing meaning c.args.facts.now c.args.hours.now ≡ Ok cents = search rules in
    record {
      sheet = pile.schedule;
      sheets = pile.riders.items;
      described = c.in_ok-pile.ensures;
      facts_within = search rules;
      rows_within = search rules;
      priced = priced;
    }
