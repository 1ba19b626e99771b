-- Requests and answers as values, as the book's calls and what is answered to them.
use Rattle.std.specs.Prelude.{◌≡◌, Ok, Err, Result, ⊤}
use Rattle.tariff.specs.Pricing.{Meaning}
use Rattle.tariff.specs.declared.refusal.Refusal.{Refusal}
use Rattle.book.specs.Books.{IsUnaltered, SameMemory, view}
use Rattle.book.specs.Calls.{Call, opens, starts, posts, posts_day, bills, trues_up, finalises, asks, Question, whether_due, line_total, Reply, ReplyTo}
use Rattle.book.specs.PointCodes.{code_bytes}
use Rattle.book.specs.Steps.{answer, step}
use Rattle.book.specs.declared.book.Book.{Book}
use Rattle.book.specs.declared.request.Answer.{Answer}
use Rattle.book.specs.declared.request.Answer.TheVariants.{Done, Started, Written, IsDue, Sum, Refused}
use Rattle.book.specs.declared.request.Request.{Request}
use Rattle.book.specs.declared.request.Request.TheVariants.{Open, Start, Post, PostDay, Bill, TrueUp, Finalise, Due, Total}

abbrev pub call_of : Request → Call
call_of (Open code contract substation carried) = opens (code_bytes code) contract substation carried.now
call_of (Start days) = starts days
call_of (Post m place post) = posts m place post
call_of (PostDay m day code readings) = posts_day m day (code_bytes code) readings.now
call_of (Bill m) = bills m
call_of (TrueUp m) = trues_up m
call_of (Finalise m) = finalises m
call_of (Due m) = asks (whether_due m)
call_of (Total m line) = asks (line_total m line)

-- a reply as the answer that says so, or the refusal
abbrev pub answer_by : {X : Type 0} → (X → Answer) → Result X Refusal → Answer
answer_by as_answer (Ok x) = as_answer x
answer_by as_answer (Err refusal) = Refused refusal

-- a call's answer as a value
abbrev pub question_answer : (question : Question) → Result (ReplyTo question) Refusal → Answer
question_answer (whether_due m) = answer_by IsDue
question_answer (line_total m line) = answer_by Sum

abbrev pub answer_of : (call : Call) → Result (Reply call) Refusal → Answer
answer_of (starts days) = answer_by Started
answer_of (bills m) = answer_by Written
answer_of (trues_up m) = answer_by Written
answer_of (asks question) = question_answer question
answer_of _ = answer_by (λ _. Done)

-- what leaves a book as it was: a question, and a call that was refused
abbrev pub LeavesAll : Call → Answer → Type 0
LeavesAll (asks question) given = ⊤
LeavesAll call (Refused refusal) = ⊤
LeavesAll call given = ⊥

-- a call made of a book: what was given as its answer, what the book holds after it, in the same memory, and that
-- a question and a refusal leave the book and every record of its memory as they were
pub record PerformsAs (meaning : Meaning) (call : Call) (book : Book) (given : Answer) (book' : Book) : Type 0 where
  pub answers : given ≡ answer_of call (answer meaning call (view book))
  pub leaves : view book' ≡ step meaning call (view book)
  pub keeps : LeavesAll call given → IsUnaltered book book'
  pub memory : SameMemory book book'
