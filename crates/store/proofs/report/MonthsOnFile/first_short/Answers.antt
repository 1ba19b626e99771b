use Rattle.std.proofs.Common.{◌≡◌, min, length, not, take, drop, sym, arith, rules, tests, length-drop, length-take}
use Rattle.std.proofs.lemmas.Iterator.{YieldsList-from_slice, YieldsList-from_take}
use Rattle.std.proofs.lemmas.Iterator.Search.{position_from_yields_List}
use Rattle.store.specs.Months.{has_reached}
use Rattle.store.specs.Stores.{filed_in, months_of}
use Rattle.store.proofs.Stretches.{length_months}
use Rattle.store.proofs.Views.{first_short_counted}
use Rattle.store.proofs.Windows.{position_fails}
use Rattle.store.proofs.report.MonthsOnFile.first_short.Goals as goal

pub returns : goal.returns
returns c =
    let store = filed_in c.args.self.now in
    let k = c.args.k in
    let records = take store.started (drop 24 store.records) in
    let many : length (take k records) ≡ min (length (months_of store)) k =
    simp (length-take, length-drop, length_months store) (omega arith) in
    let found = position_from_yields_List
    (λ month. not (has_reached c.args.state month.state)) _ _ c.position.result c.position.ensures.ran
    (YieldsList-from_take k (YieldsList-from_slice records cc) cc) (λ x b q k. search (rules, tests)) in
    rw (sym many, sym (first_short_counted store c.args.state k))
    (position_fails (λ month. has_reached c.args.state month.state)
    (take k records) c.position.result found)
