-- The calls that a book takes, and what each answers where it is not refused.
use Rattle.std.specs.Prelude.{ℕ, Bool, List, ℤ}
use Rattle.store.specs.declared.post.Post.{Post}
use Rattle.store.specs.declared.post.Reading.{Reading}

-- what is asked of a month, which changes nothing; the month comes first
pub data Question : Type 0 where
  -- whether pricing the file now would alter a line
  whether_due : ℕ → Question
  -- what the entries of a line add up to
  line_total : ℕ → ℕ → Question

-- a call that names a month has it first; the schedule of those that price is given beside the call
pub data Call : Type 0 where
  -- code, contract, substation total, carried peaks
  opens : List ℕ → ℕ → ℕ → List ℕ → Call
  -- days
  starts : ℕ → Call
  -- quarter or hour, and what is posted to it
  posts : ℕ → ℕ → Post → Call
  -- day, code of the point, readings
  posts_day : ℕ → ℕ → List ℕ → List Reading → Call
  bills : ℕ → Call
  trues_up : ℕ → Call
  finalises : ℕ → Call
  asks : Question → Call

abbrev pub ReplyTo : Question → Type 0
ReplyTo (whether_due m) = Bool
ReplyTo (line_total m line) = ℤ

-- the new month's number, the number of entries written, what was asked, or nothing
abbrev pub Reply : Call → Type 0
Reply (starts days) = ℕ
Reply (bills m) = ℕ
Reply (trues_up m) = ℕ
Reply (asks question) = ReplyTo question
Reply _ = Unit {0}
