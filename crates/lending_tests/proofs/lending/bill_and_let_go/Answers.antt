use Rattle.std.proofs.Common.{rules, Err, Ok, ◌∙◌}
use Rattle.std.proofs.lemmas.Result.{err_from_is_err_and}
use Rattle.book.specs.Books.{Performs}
use Rattle.book.specs.Calls.{bills}
use Rattle.book.proofs.Exits.{unaltered}
use Rattle.lending_tests.proofs.Held.{let_go_refused, let_go_taken, refused_left}
use Rattle.lending_tests.proofs.lending.bill_and_let_go.Goals as goal

pub returns : goal.returns
returns g c =
    let meaning = g.S.Schedule.meaning c.args.schedule.now in
    let made = c.audit-book.ensures.made in
    let refused = c.start-refused.ensures meaning in
    -- the slices are behind the references that were lent, from the first call to the last
    let quarters = refused.memory.quarters ∙ c.bill.ensures.memory.quarters ∙ made.lent.quarters in
    let hours = refused.memory.hours ∙ c.bill.ensures.memory.hours ∙ made.lent.hours in
    let entries = refused.memory.entries ∙ c.bill.ensures.memory.entries ∙ made.lent.entries in
    let paid : Performs meaning (bills c.args.month) c.audit-book.result (Ok c.in_ok-count.count) c.bill.new.self = rw c.in_ok-count.was at c.bill.ensures in
    let_go_taken made (refused_left meaning c.bill.new.self c.start-refused.new.self c.start-refused.result refused)
    (search (rules, quarters)) (search (rules, hours)) (search (rules, entries))
    c.args.month c.in_ok-count.count c.audit-book.ensures.promise c.audit-book.ensures.stands paid

pub returns-in_err-count : goal.returns-in_err-count
returns-in_err-count g c =
    let made = c.audit-book.ensures.made in
    let quarters = c.bill.ensures.memory.quarters ∙ made.lent.quarters in
    let hours = c.bill.ensures.memory.hours ∙ made.lent.hours in
    let entries = c.bill.ensures.memory.entries ∙ made.lent.entries in
    let failed = err_from_is_err_and c.from_residual.result c.from_residual.ensures.1 in
    let refused : Performs (g.S.Schedule.meaning c.args.schedule.now) (bills c.args.month) c.audit-book.result (Err failed.0) c.bill.new.self =
    rw (c.in_err-count.was, ← failed.2) at c.bill.ensures in
    rw failed.1
    (let_go_refused made (unaltered c.bill.new.self) (search (rules, quarters)) (search (rules, hours)) (search (rules, entries)) c.args.month failed.0 refused)
