use Rattle.std.proofs.Common.{◌≡◌, ◌*◌, ◌≤◌, ◌/◌, ℕ, length, min, ap, ◌∙◌, rules, arith, lit<}
use Rattle.std.proofs.Math.Nat.{mul-div_cancel_left}
use Rattle.store.specs.Stores.{capacity}
use Rattle.store.specs.declared.memory.TheConstants.{MONTH_HOURS, MONTH_QUARTERS}
use Rattle.store.specs.declared.month.TheConstants.{MOST_MONTHS}
use Rattle.book.specs.Memories.{entry_room, month_room}
use Rattle.book.proofs.memory.BookMemory.new.Goals as goal

-- memory for so many months holds as many
capacity_for : (quarters hours n : ℕ) → n ≤ MOST_MONTHS → quarters ≡ MONTH_QUARTERS * n
    → hours ≡ MONTH_HOURS * n → capacity quarters hours ≡ n
unfolding capacity
capacity_for quarters hours n few quartered houred =
    let by_quarters : quarters / MONTH_QUARTERS ≡ n = ap (λ q. q / MONTH_QUARTERS) quartered ∙ mul-div_cancel_left n (lit< tt) in
    let by_hours : hours / MONTH_HOURS ≡ n = ap (λ h. h / MONTH_HOURS) houred ∙ mul-div_cancel_left n (lit< tt) in
    rw (by_quarters, by_hours) (omega arith)

pub returns-clause-months : goal.returns-clause-months
unfolding month_room
returns-clause-months c =
    let n = min MOST_MONTHS c.args.months in
    let quartered : length c.in_ok-vec.field-0.items ≡ MONTH_QUARTERS * n = search rules in
    let houred : length c.in_ok-vec-2.field-0.items ≡ MONTH_HOURS * n = search rules in
    capacity_for _ _ n (omega arith) quartered houred

pub returns-clause-entries : goal.returns-clause-entries
unfolding entry_room
returns-clause-entries c = search rules
