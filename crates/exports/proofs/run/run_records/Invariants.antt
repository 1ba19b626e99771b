use Rattle.std.proofs.Common.{◌≡◌, map, take}
use Rattle.book.specs.Books.{view}
use Rattle.exports.specs.Calls.{described_call}
use Rattle.exports.specs.Runs.{answers_to, view_after_calls}
use Rattle.exports.proofs.run.run_records.Given as goal

abbrev pub invariant-loop-i : goal.invariant-loop-i
invariant-loop-i g l =
    let meaning = g.S.Schedule.meaning l.schedule in
    let calls = map (described_call l.lists.carried.now l.lists.readings.now) (take l.i l.calls) in
    (take l.i l.answers ≡ answers_to meaning calls (view l.initial.book))
    × (view l.book ≡ view_after_calls meaning calls (view l.initial.book))
