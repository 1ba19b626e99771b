-- What is filed does not depend on how it was shown that memory has room for it.
use Rattle.std.proofs.Common.{◌≡◌, List, ap, subst}
use Rattle.std.proofs.Props.{props}
use Rattle.store.specs.Records.{Keeps}
use Rattle.store.specs.Stores.{filed_as}
use Rattle.store.specs.declared.memory.Hour.{Hour}
use Rattle.store.specs.declared.memory.Quarter.{Quarter}
use Rattle.store.specs.declared.month.MonthRecords.{MonthRecords}

pub same_filed : (months : MonthRecords) (quarters : List Quarter) (hours : List Hour)
    (x y : Keeps months quarters hours)
    → filed_as months quarters hours x ≡ filed_as months quarters hours y
same_filed months quarters hours x y =
    let kept_prop : IsProp (Keeps months quarters hours) = hlevel props in
    ap (filed_as months quarters hours) (kept_prop x y)

-- nor does it where records and memory are equal
pub filed_from : {months months' : MonthRecords} {quarters quarters' : List Quarter} {hours hours' : List Hour}
    (x : Keeps months quarters hours) → months ≡ months' → quarters ≡ quarters' → hours ≡ hours'
    → (y : Keeps months' quarters' hours') → filed_as months quarters hours x ≡ filed_as months' quarters' hours' y
filed_from {months} {months'} {quarters} {quarters'} {hours} {hours'} x by_months by_quarters by_hours =
    subst (λ m. (y : Keeps m quarters' hours') → filed_as months quarters hours x ≡ filed_as m quarters' hours' y) by_months
    (subst (λ qs. (y : Keeps months qs hours') → filed_as months quarters hours x ≡ filed_as months qs hours' y) by_quarters
    (subst (λ hs. (y : Keeps months quarters hs) → filed_as months quarters hours x ≡ filed_as months quarters hs y) by_hours
    (same_filed months quarters hours x)))
