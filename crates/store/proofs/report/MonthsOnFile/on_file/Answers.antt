use Rattle.std.proofs.Common.{◌≡◌, ◌+◌, ◌*◌, ◌≤◌, length, get_or, sym, ap, ◌∙◌, arith}
use Rattle.std.proofs.Math.Nat.{mul-le-mul_left, mul-zero}
use Rattle.store.specs.Months.{no_month}
use Rattle.store.specs.Stores.{filed_in, months_of}
use Rattle.store.proofs.Stretches.{length_stretch}
use Rattle.store.proofs.Views.{days_recorded, no_days, nothing_past}
use Rattle.store.proofs.report.MonthsOnFile.on_file.Goals as goal

pub returns-in-Some : goal.returns-in-Some
returns-in-Some g c =
    let store = filed_in c.args.self.now in
    let k = c.args.k in
    let month = c.in-Some.month in
    let here = c.in-Some.ensures.0 in
    let days : month.days ≡ (get_or (months_of store) k no_month).days =
    ap (λ m. m.days) c.in-Some.ensures.1 ∙ sym (days_recorded store k here) in
    let few : c.args.a_day * month.days ≤ c.args.a_day * 31 = mul-le-mul_left c.args.a_day month.length.1 in
    let next = mul-le-mul_left c.args.room here in
    let fits : c.args.room * k + c.args.a_day * month.days ≤ length c.args.memory.now =
    grind (arith, next, few) in
    let long : length c.stretch.result.now ≡ c.args.a_day * month.days = ap length c.stretch.ensures
    ∙ length_stretch c.args.room k (c.args.a_day * month.days) c.args.memory.now fits in
    rw (sym days) (record { read = c.stretch.ensures; counted = long; few = omega (arith, long, few) })

pub returns-in-None : goal.returns-in-None
returns-in-None g c =
    let store = filed_in c.args.self.now in
    let past = c.in-None.ensures in
    record {
      read = nothing_past store c.args.room c.args.a_day c.args.k c.args.memory.now past;
      counted = rw (no_days store c.args.k past) (sym (mul-zero c.args.a_day));
      few = omega arith;
    }
