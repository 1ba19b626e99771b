use Rattle.std.proofs.Common.{◌≡◌, ℕ, ◌+◌, ◌<◌, ◌≤◌, true, false, List, [], ◌∷◌, ◌++◌, length, get_or, drop, ℤ, pos, count_by, sym, ap, ◌∙◌, arith, w64, to_z, of_z, rules}
use Rattle.std.proofs.lemmas.List.{append_assoc, append-nil, drop_all, drop_more, drop-drop, length-append}
use Rattle.std.proofs.lemmas.Bool.Decides.{nat_tests}
use Rattle.ledger.specs.Entries.{differences, entries_from, is_written, sums}
use Rattle.ledger.specs.Ledgers.{entries_of}
use Rattle.ledger.specs.declared.entry.Entry.{Entry}
use Rattle.ledger.specs.declared.entry.EntryKind.{EntryKind}
use Rattle.ledger.proofs.Fronts.{entries_fit, entries_length, part_within, written_within}
use Rattle.ledger.proofs.Sums.{entries_cons_unwritten, entries_cons_written, owed_count, entries_none, entry_of}
use Rattle.ledger.proofs.ledger.Ledger.write.Goals as goal
use Rattle.ledger.proofs.ledger.Ledger.write.Goals.{then-writes, else-writes}

-- the entries written before line i + 1, those still to come, and all of them
module _ (kind : EntryKind) (month : ℕ) (lines : List ℤ) (done whole : List Entry) (i : ℕ)
    (so_far : done ++ entries_from kind month (i + 1) (drop i lines) ≡ whole) where
  written_more : (cents : ℤ) → i < length lines → cents ≡ get_or lines i (pos 0)
      → is_written kind cents ≡ true
      → (done ++ entry_of kind month (i + 1) cents ∷ []) ++ entries_from kind month (i + 1 + 1) (drop (i + 1) lines) ≡ whole
  written_more cents here is written =
      let rest = entries_from kind month (i + 1 + 1) (drop (i + 1) lines) in
      let next = ap (entries_from kind month (i + 1)) (drop_more lines i (pos 0) here ∙ ap (λ x. x ∷ drop (i + 1) lines) (sym is)) ∙ entries_cons_written kind month (i + 1) cents (drop (i + 1) lines) written in
      append_assoc done (entry_of kind month (i + 1) cents ∷ []) rest ∙ ap (λ es. done ++ es) (sym next) ∙ so_far

  unwritten_more : i < length lines → is_written kind (get_or lines i (pos 0)) ≡ false
      → done ++ entries_from kind month (i + 1 + 1) (drop (i + 1) lines) ≡ whole
  unwritten_more here unwritten =
      let next = ap (entries_from kind month (i + 1)) (drop_more lines i (pos 0) here) ∙ entries_cons_unwritten kind month (i + 1) (get_or lines i (pos 0)) (drop (i + 1) lines) unwritten in
      ap (λ es. done ++ es) (sym next) ∙ so_far

  all_written : length lines ≤ i → done ≡ whole
  all_written past =
      let none = ap (entries_from kind month (i + 1)) (drop_all i lines past) ∙ entries_none kind month (i + 1) in
      sym (append-nil done) ∙ ap (λ es. done ++ es) (sym none) ∙ so_far

-- what is alike past the entries is alike past one more
past_more : (old new : List Entry) (written next : ℕ) → next ≡ written + 1
    → drop written new ≡ drop written old → drop next new ≡ drop next old
past_more old new written next is alike = rw is (sym (drop-drop 1 written new) ∙ ap (drop 1) alike ∙ drop-drop 1 written old)

pub returns-then-free-count-clause-answer : goal.returns-then-free-count-clause-answer
returns-then-free-count-clause-answer c =
    let count = owed_count c.args.kind c.args.month c.args.amounts.now.cents (entries_of c.args.self.now) in
    grind (arith, nat_tests)

-- what is written is within the limit, and so is each front of it
pub push-requires : goal.push-requires
push-requires c =
    let ledger = c.args.self.now in
    let kind = c.args.kind in
    let amounts = c.args.amounts.now in
    let lines = c.differences-lines.result in
    let i = c.loop-i.i in
    let done = entries_of c.loop-i.self in
    let cents = to_z w64 (of_z w64 (get_or lines i (pos 0))) in
    let same : cents ≡ get_or lines i (pos 0) = search rules in
    let more = written_more kind c.args.month lines done _ i c.loop-i.invariant.whole cents (search rules) same (search rules) in
    let count = ap (count_by (is_written kind)) (c.differences-lines.ensures ∙ ap (λ es. differences amounts.cents (sums es c.args.month)) c.entries.ensures) in
    record {
      space = omega (arith, count, owed_count kind c.args.month amounts.cents (entries_of ledger), entries_length c.loop-i.self, entries_fit ledger, simp length-append at (ap length more));
      within = part_within _ _ _ more (written_within kind (entries_of ledger) c.args.month amounts.cents amounts.counted ledger.kept.1 amounts.within);
    }

pub loop-i-preserved : goal.loop-i-preserved
loop-i-preserved c =
    let lines = c.differences-lines.result in
    let i = c.loop-i.i in
    let here : i < length lines = search rules in
    elim c.if-writes.branch [
      | then-writes w ↦
          let cents = to_z w64 (of_z w64 (get_or lines i (pos 0))) in
          let same : cents ≡ get_or lines i (pos 0) = search rules in
          let more = written_more c.args.kind c.args.month lines (entries_of c.loop-i.self) _ i c.loop-i.invariant.whole cents here same (search rules) in
          let one_more = simp length-append at (ap length w.push.ensures.pushed) in
          let next : w.push.new.self.written.now ≡ c.loop-i.self.written.now + 1 = omega (arith, entries_length w.push.new.self, entries_length c.loop-i.self) in
          let past = past_more c.args.self.now.memory.now c.loop-i.self.memory.now c.loop-i.self.written.now w.push.new.self.written.now next c.loop-i.invariant.past in
          let same = c.loop-i.invariant.memory in
          rw w.self-is
          (record {
            whole = rw w.push.ensures.pushed more;
            room = w.push.ensures.room ∙ c.loop-i.invariant.room;
            past = w.push.ensures.past ∙ past;
            memory = record { entries = w.push.ensures.memory.entries ∙ same.entries; count = w.push.ensures.memory.count ∙ same.count };
          })
      | else-writes w ↦
          let more = unwritten_more c.args.kind c.args.month lines (entries_of c.loop-i.self) _ i c.loop-i.invariant.whole here (search rules) in
          rw w.self-is (record { whole = more; room = c.loop-i.invariant.room; past = c.loop-i.invariant.past; memory = c.loop-i.invariant.memory })
    ]

pub returns-clause-answer : goal.returns-clause-answer
returns-clause-answer c =
    let count = owed_count c.args.kind c.args.month c.args.amounts.now.cents (entries_of c.args.self.now) in
    grind (arith, nat_tests)

pub returns-clause-written : goal.returns-clause-written
returns-clause-written c =
    all_written c.args.kind c.args.month c.differences-lines.result (entries_of c.loop-i.self) _ c.loop-i.i c.loop-i.invariant.whole (search rules)
