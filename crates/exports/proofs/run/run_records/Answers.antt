use Rattle.std.proofs.Common.{◌≡◌, ◌<◌, [], ◌∷◌, map, take, get_or, length, arith, rules}
use Rattle.std.proofs.lemmas.List.{map-append, take_more, take_more_set}
use Rattle.book.specs.Books.{view}
use Rattle.exports.specs.Calls.{described_call}
use Rattle.exports.specs.Runs.{answer_to, view_after_call}
use Rattle.exports.specs.declared.call.CallRecord.{CallRecord}
use Rattle.exports.proofs.OneCallMore.{answers_with_last, view_after_last}
use Rattle.exports.proofs.run.run_records.Goals as goal

abbrev blank : CallRecord
blank = record { kind = 0; month = 0; place = 0; first = 0; second = 0; from = 0; count = 0; code = [] }

pub loop-i-preserved : goal.loop-i-preserved
loop-i-preserved g c =
    let i = c.loop-i.i in
    let records = c.args.calls.now in
    let read = described_call c.args.lists.now.carried.now c.args.lists.now.readings.now in
    let meaning = g.S.Schedule.meaning c.args.schedule.now in
    let v = view c.args.book.now in
    let calls = map read (take i records) in
    let room : i < length c.loop-i.answers =
    omega (arith, c.requires, c.loop-i.auto.answers, c.loop-i-test.true) in
    let call = read (get_or records i blank) in
    let w = view c.loop-i.book in
    let answers : c.run_record.result ≡ answer_to meaning call w = search rules in
    let leaves : view c.run_record.new.book ≡ view_after_call meaning call w = search rules in
    rw (
      take_more_set c.loop-i.answers i c.run_record.result room,
      take_more records i blank c.loop-i-test.true,
      map-append read (take i records) (get_or records i blank ∷ []),
    ) (
      answers_with_last meaning call calls v w (take i c.loop-i.answers) c.run_record.result
          c.loop-i.invariant.0 c.loop-i.invariant.1 answers,
      view_after_last meaning call calls v w _ c.loop-i.invariant.1 leaves,
    )
