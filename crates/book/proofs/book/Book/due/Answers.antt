use Rattle.std.proofs.Common.{◌≡◌, true, [], ◌∷◌, is_some, refl, ap, ◌∙◌, ap₂}
use Rattle.ledger.specs.Entries.{first_differing, sums}
use Rattle.store.specs.declared.month.State.TheVariants.{Billed}
use Rattle.book.specs.Books.{view}
use Rattle.book.specs.Calls.{asks, whether_due}
use Rattle.book.specs.Table.{due_rows, month_open, line_past_limit}
use Rattle.book.specs.Views.{altered_line, month_has_reached}
use Rattle.book.proofs.Exits.{answers_refused, answers_taken, found_state, in_book_passes, pass}
use Rattle.book.proofs.Priced.{amounts_are, no_fault}
use Rattle.book.proofs.book.Book.due.Goals as goal

pub returns-in_err-named : goal.returns-in_err-named
returns-in_err-named g c =
    let meaning = g.S.Schedule.meaning c.args.schedule.now in
    let m = c.args.month in
    let v = view c.args.self.now in
    answers_refused meaning (asks (whether_due m)) c.args.self.now c.from_residual.result _ c.from_residual.ensures.1 (c.in_err-named.ensures (due_rows meaning m v))

pub returns : goal.returns
unfolding altered_line
returns g c =
    let meaning = g.S.Schedule.meaning c.args.schedule.now in
    let m = c.args.month in
    let v = view c.args.self.now in
    let is = c.in_ok-named.ensures in
    let ok = rw is.month at c.in_ok-amounts.ensures in
    let amounts = c.in_ok-amounts.amounts in
    let billed : month_has_reached Billed m v ≡ true = found_state m v c.in_ok-named.named is Billed _ c.has_reached.ensures ∙ c.if-not-has_reached.false in
    answers_taken meaning (asks (whether_due m)) c.args.self.now c.is_some.result
    (in_book_passes m v c.in_ok-named.named is (due_rows meaning m v)
    ∙ pass (month_open m v) (line_past_limit meaning m v ∷ []) _ (rw billed refl) (pass (line_past_limit meaning m v) [] _ (no_fault meaning v m amounts ok) refl))
    (c.is_some.ensures ∙ ap is_some (c.first_differing.ensures ∙ ap (λ es. first_differing amounts.cents (sums es c.in_ok-named.named.number)) c.ledger.ensures ∙ ap₂ first_differing (amounts_are meaning v m amounts ok) (ap (sums v.ledger) is.number)))
