-- What a month is priced at under described sheets, and why it is not.
use Rattle.std.specs.Prelude.{◌≡◌, List, ℤ, Ok, Err}
use Rattle.book.specs.declared.request.Answer.TheVariants.{Done}
use Rattle.piles.specs.declared.rate.RateSheet.{RateSheet}
use Rattle.piles.specs.declared.rider.RiderSheet.{RiderSheet}
use Rattle.tariff.specs.Limits.{FactsWithin, RowsWithin}
use Rattle.tariff.specs.Pricing.{pricing}
use Rattle.tariff.specs.declared.facts.PlainFacts.{PlainFacts}
use Rattle.tariff.specs.declared.hours.HourRow.{HourRow}
use Rattle.tariff.specs.declared.refusal.Refusal.{Refusal}
use Rattle.tariff.specs.declared.refusal.Refusal.TheVariants.{OutsideLimit}
use Rattle.exports.specs.Answers.{failure_record, record_of}
use Rattle.exports.specs.Piles.{DescribesSheets, FailsToPile, sheets_meaning}
use Rattle.exports.specs.declared.answer.AnswerRecord.{AnswerRecord}
use Rattle.exports.specs.declared.failure.Failure.{Failure}
use Rattle.exports.specs.declared.failure.Failure.TheVariants.{Refused}
use Rattle.exports.specs.declared.price.CentsRecord.{CentsRecord}
use Rattle.exports.specs.declared.sheets.RateRecord.{RateRecord}
use Rattle.exports.specs.declared.sheets.RiderRecord.{RiderRecord}

-- facts and hours lie within their limits, and the sheets price them so
pub record PricesMonth (rate : RateRecord) (riders : List RiderRecord) (facts : PlainFacts)
    (hours : List HourRow) (cents : List ℤ) : Type 0 where
  pub sheet : RateSheet
  pub sheets : List RiderSheet
  pub described : DescribesSheets rate riders sheet sheets
  pub facts_within : FactsWithin facts
  pub rows_within : RowsWithin hours
  pub priced : pricing (sheets_meaning sheet sheets) facts hours ≡ Ok cents

-- the first that holds: there is no such pile, the facts lie outside, the hours do, the pricing is refused
pub data FailsToPrice (rate : RateRecord) (riders : List RiderRecord) (facts : PlainFacts)
    (hours : List HourRow) : Failure → Type 0 where
  no_pile : {failure : Failure} → FailsToPile rate riders failure
      → FailsToPrice rate riders facts hours failure
  facts_outside : (sheet : RateSheet) (sheets : List RiderSheet) → DescribesSheets rate riders sheet sheets
      → ¬ FactsWithin facts
      → FailsToPrice rate riders facts hours (Refused (OutsideLimit 0 0))
  hours_outside : (sheet : RateSheet) (sheets : List RiderSheet) → DescribesSheets rate riders sheet sheets
      → FactsWithin facts → ¬ RowsWithin hours
      → FailsToPrice rate riders facts hours (Refused (OutsideLimit 0 0))
  refused : (sheet : RateSheet) (sheets : List RiderSheet) (refusal : Refusal)
      → DescribesSheets rate riders sheet sheets → FactsWithin facts → RowsWithin hours
      → pricing (sheets_meaning sheet sheets) facts hours ≡ Err refusal
      → FailsToPrice rate riders facts hours (Refused refusal)

-- what the call answers, with the cents before and after it
pub data AnswersPricing (rate : RateRecord) (riders : List RiderRecord) (facts : PlainFacts)
    (hours : List HourRow) (old : CentsRecord) : AnswerRecord → CentsRecord → Type 0 where
  prices : {cents : List ℤ} → PricesMonth rate riders facts hours cents
      → AnswersPricing rate riders facts hours old (record_of Done) (record { cents = cents })
  fails : {failure : Failure} → FailsToPrice rate riders facts hours failure
      → AnswersPricing rate riders facts hours old (failure_record failure) old
