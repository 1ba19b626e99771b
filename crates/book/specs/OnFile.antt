-- How a month stands: what is answered, and what refuses to answer.
use Rattle.std.specs.Prelude.{◌≡◌, ℕ, [], None}
use Rattle.book.specs.Table.{first_holding, month_rows}
use Rattle.book.specs.Views.{View, facts_of, month_at}
use Rattle.book.specs.declared.reports.MonthOnFile.{MonthOnFile}

-- a month of the book, as its file has it
pub record IsOnFile (m : ℕ) (v : View) (on_file : MonthOnFile) : Type 0 where
  pub there : first_holding (month_rows m v []) ≡ None
  pub days : on_file.days ≡ (month_at m v).days
  pub state : on_file.state ≡ (month_at m v).state
  pub facts : on_file.facts.plain ≡ facts_of v m
