-- What a record says of an answer.
use Rattle.std.specs.Prelude.{ℕ, if◌then◌else◌, pos}
use Rattle.book.specs.declared.request.Answer.{Answer}
use Rattle.book.specs.declared.request.Answer.TheVariants.{Begun, Done, Started, Written, IsDue, Sum, Refused}
use Rattle.tariff.specs.Refusals.{numbers_of}
use Rattle.exports.specs.declared.answer.AnswerKind.{AnswerKind}
use Rattle.exports.specs.declared.answer.AnswerKind.TheVariants as kind
use Rattle.exports.specs.declared.answer.AnswerRecord.{AnswerRecord}
use Rattle.exports.specs.declared.failure.Failure.{Failure}
use Rattle.exports.specs.declared.failure.Failure.TheVariants as failure

-- the number of each kind of answer
abbrev pub kind_number : AnswerKind → ℕ
kind_number kind.Begun = 0
kind_number kind.Done = 1
kind_number kind.Started = 2
kind_number kind.Written = 3
kind_number kind.IsDue = 4
kind_number kind.Sum = 5
kind_number kind.Refused = 6
kind_number kind.Damaged = 7
kind_number kind.NoMemory = 8

-- a record of no more than its kind
abbrev pub plain_record : AnswerKind → AnswerRecord
plain_record kind = record {
  kind = kind_number kind;
  number = 0;
  month = 0;
  rider = 0;
  place = 0;
  count = 0;
  cents = pos 0;
}

-- a kind with a count
abbrev pub count_record : AnswerKind → ℕ → AnswerRecord
count_record kind count = record (plain_record kind) { count = count }

abbrev pub record_of : Answer → AnswerRecord
record_of Begun = plain_record kind.Begun
record_of Done = plain_record kind.Done
record_of (Started month) = count_record kind.Started month
record_of (Written entries) = count_record kind.Written entries
record_of (IsDue due) = count_record kind.IsDue (if due then 1 else 0)
record_of (Sum cents) = record (plain_record kind.Sum) { cents = cents }
record_of (Refused refusal) = record (plain_record kind.Refused) {
  number = (numbers_of refusal).number;
  month = (numbers_of refusal).month;
  rider = (numbers_of refusal).rider;
  place = (numbers_of refusal).place;
}

-- the description is of nothing
abbrev pub damaged_record : AnswerRecord
damaged_record = plain_record kind.Damaged

abbrev pub failure_record : Failure → AnswerRecord
failure_record failure.Damaged = damaged_record
failure_record (failure.Refused refusal) = record_of (Refused refusal)
failure_record failure.NoMemory = plain_record kind.NoMemory
