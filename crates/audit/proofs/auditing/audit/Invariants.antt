use Rattle.std.proofs.Common.{◌≡◌, ℕ, ◌+◌, List}
use Rattle.book.specs.Calls.{Call}
use Rattle.book.specs.declared.book.Book.{Book}
use Rattle.audit.specs.Audits.{Audits}
use Rattle.audit.proofs.auditing.audit.Given as goal

-- however the turns that are left go on, the whole is an audit from where it began
abbrev pub invariant-loop-turn : goal.invariant-loop-turn
invariant-loop-turn g l =
    (left : ℕ) (end : Book) (calls : List Call) → left + l._turn ≡ l.turns → (b : _) → Audits g.A.Analyst.chooses (g.S.Schedule.meaning l.schedule) left l.analyst l.last l.book calls b end → (all : List Call) × Audits g.A.Analyst.chooses (g.S.Schedule.meaning l.schedule) l.turns l.initial.analyst l.initial.last l.initial.book all b end
