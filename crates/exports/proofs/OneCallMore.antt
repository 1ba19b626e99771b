-- One call more at the end of a run.
use Rattle.std.proofs.Common.{◌≡◌, List, [], ◌∷◌, ◌++◌, Option, sym, refl, ap, ◌∙◌}
use Rattle.book.specs.Calls.{Call}
use Rattle.book.specs.Views.{View}
use Rattle.tariff.specs.Pricing.{Meaning}
use Rattle.exports.specs.Runs.{answer_to, answers_to, view_after_call, view_after_calls}
use Rattle.exports.specs.declared.answer.AnswerRecord.{AnswerRecord}

module _ (meaning : Meaning) (last : Option Call) where
  view_after_more : (calls : List (Option Call)) (v : View)
      → view_after_calls meaning (calls ++ last ∷ []) v
      ≡ view_after_call meaning last (view_after_calls meaning calls v)
  view_after_more [] v = refl
  view_after_more (call ∷ calls) v = view_after_more calls (view_after_call meaning call v)

  answers_more : (calls : List (Option Call)) (v : View)
      → answers_to meaning (calls ++ last ∷ []) v
      ≡ answers_to meaning calls v ++ answer_to meaning last (view_after_calls meaning calls v) ∷ []
  answers_more [] v = refl
  answers_more (call ∷ calls) v =
      ap (λ rest. answer_to meaning call v ∷ rest) (answers_more calls (view_after_call meaning call v))

  -- the answers so far with that of one call more
  pub answers_with_last : (calls : List (Option Call)) (v w : View) (answers : List AnswerRecord)
      (new : AnswerRecord)
      → answers ≡ answers_to meaning calls v → w ≡ view_after_calls meaning calls v
      → new ≡ answer_to meaning last w
      → answers ++ new ∷ [] ≡ answers_to meaning (calls ++ last ∷ []) v
  answers_with_last calls v w answers new so_far view_so_far is =
      ap (λ xs. xs ++ new ∷ []) so_far
      ∙ ap (λ x. answers_to meaning calls v ++ x ∷ []) (is ∙ ap (answer_to meaning last) view_so_far)
      ∙ sym (answers_more calls v)

  pub view_after_last : (calls : List (Option Call)) (v w x : View)
      → w ≡ view_after_calls meaning calls v → x ≡ view_after_call meaning last w
      → x ≡ view_after_calls meaning (calls ++ last ∷ []) v
  view_after_last calls v w x view_so_far is =
      is ∙ ap (view_after_call meaning last) view_so_far ∙ sym (view_after_more calls v)
