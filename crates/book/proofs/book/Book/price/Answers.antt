use Rattle.std.proofs.Common.{rules, ◌≡◌, ℕ, Ok, Err, Result, ap, ◌∙◌}
use Rattle.tariff.specs.Pricing.{plain_amounts, month_result}
use Rattle.tariff.specs.declared.amounts.Amounts.{Amounts}
use Rattle.tariff.specs.declared.refusal.Fault.{Fault}
use Rattle.tariff.specs.declared.refusal.Refusal.{Refusal}
use Rattle.tariff.specs.declared.refusal.Refusal.TheVariants.{LinePastLimit}
use Rattle.book.proofs.Left.{Answered, answered}
use Rattle.book.proofs.book.Book.price.Goals as goal

-- a schedule's answer with its fault as a refusal
named_fault : (m : ℕ) (asked : Result Amounts Fault) (r : Result Amounts Refusal) → Answered (LinePastLimit m) asked r
    → plain_amounts r ≡ month_result m (plain_amounts asked)
named_fault m (Ok amounts) r is = ap plain_amounts is
named_fault m (Err fault) r is = ap plain_amounts is

pub returns : goal.returns
returns g c =
    let m = c.args.named.now.month in
    named_fault m _ _ (answered (LinePastLimit m) _ _ _ c.map_err.ensures.cases (λ fault refusal made. search rules))
    ∙ ap (month_result m) c.outcome.ensures
