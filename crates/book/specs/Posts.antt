-- What refuses a post that the store does not take.
use Rattle.std.specs.Prelude.{ℕ}
use Rattle.store.specs.declared.post.PostError.{PostError}
use Rattle.store.specs.declared.post.PostError.TheVariants.{NoSuchPlace as NotThere, OutsideLimit as Outside}
use Rattle.tariff.specs.declared.refusal.Refusal.{Refusal}
use Rattle.tariff.specs.declared.refusal.Refusal.TheVariants.{NoSuchPlace, OutsideLimit}

-- with the month and the place that were posted to; a value outside its limit by its own place
abbrev pub post_refusal : ℕ → ℕ → PostError → Refusal
post_refusal month place NotThere = NoSuchPlace month place
post_refusal month place (Outside value) = OutsideLimit month value
