-- What a run gives to its caller, from its parts.
use Rattle.std.proofs.Common.{◌≡◌, ℕ, List, ◌++◌, length, map, take, drop, min, Option, sym, ap, ◌∙◌, inl, inr, arith}
use Rattle.std.proofs.lemmas.Bool.{cases_lt}
use Rattle.std.proofs.lemmas.List.{drop_all, length-map, length-take, take-map, take_min}
use Rattle.book.specs.Calls.{Call}
use Rattle.book.specs.Views.{View}
use Rattle.ledger.specs.declared.entry.Entry.{Entry}
use Rattle.tariff.specs.Pricing.{Meaning}
use Rattle.exports.specs.Entries.{entry_record}
use Rattle.exports.specs.Runs.{IsRun, answers_to, records_with, view_after_calls}
use Rattle.exports.specs.declared.answer.AnswerRecord.{AnswerRecord}
use Rattle.exports.specs.declared.entry.EntryRecord.{EntryRecord}

-- as many entries as fit over the first records, and past them the records as they were
abbrev pub written_over : List EntryRecord → List Entry → List EntryRecord
written_over records ledger =
    let fit = take (min (length records) (length ledger)) ledger in
    map entry_record fit ++ drop (length fit) records

-- past the entries that fit the records stay
rest_as : (records : List EntryRecord) (ledger : List Entry)
    → drop (length (take (length records) ledger)) records ≡ drop (length (map entry_record ledger)) records
rest_as records ledger =
    let n = length records in
    let fit = length-take n ledger in
    let mapped = length-map ledger entry_record in
    elim (cases_lt (length ledger) n) [
      | inl fewer ↦ ap (λ k. drop k records) (omega (arith, fit, mapped, fewer))
      | inr more ↦ drop_all _ records (omega (arith, fit, more))
          ∙ sym (drop_all _ records (omega (arith, mapped, more)))
    ]

-- those that fit, over the first records
written_as : (records : List EntryRecord) (ledger : List Entry)
    → written_over records ledger ≡ records_with (map entry_record ledger) records
written_as records ledger =
    let n = length records in
    rw (take_min n ledger) (
    ap (λ xs. xs ++ drop (length (take n ledger)) records) (sym (take-map entry_record n ledger))
    ∙ ap (λ xs. take n (map entry_record ledger) ++ xs) (rest_as records ledger)
    )

module _ (meaning : Meaning) (calls : List (Option Call)) (new v w : View) where
  pub is_run : (entries : List EntryRecord) (answers' : List AnswerRecord) (entries' : List EntryRecord)
      (count : ℕ) (ledger : List Entry) → v ≡ new → answers' ≡ answers_to meaning calls v
      → w ≡ view_after_calls meaning calls v → ledger ≡ w.ledger
      → entries' ≡ written_over entries ledger → count ≡ length ledger
      → IsRun meaning calls new entries answers' entries' count
  is_run entries answers' entries' count ledger begins answers leaves held written count_is =
      let left = held ∙ ap (λ x. x.ledger) (leaves ∙ ap (view_after_calls meaning calls) begins) in
      record {
        answers = answers ∙ ap (answers_to meaning calls) begins;
        ledger = written ∙ written_as entries ledger
            ∙ ap (λ es. records_with (map entry_record es) entries) left;
        count_is = count_is ∙ ap length left;
      }
