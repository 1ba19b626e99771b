-- What stands after a run: the last that an accepted call said of it, and else what stood before.
use Rattle.std.proofs.Common.{◌≡◌, List, [], ◌∷◌, None, Option, sym, refl, ap, ◌∙◌}
use Rattle.std.specs.Prelude.{Some}
use Rattle.std.specs.Option.{option_map_or, option_or}
use Rattle.book.specs.Calls.{Call}
use Rattle.book.specs.Steps.{answer, reply, step, view_after}
use Rattle.book.specs.Table.{refusal_of}
use Rattle.book.specs.Views.{View}
use Rattle.tariff.specs.Pricing.{Meaning}
use Rattle.audit.specs.Histories.{Saying, history, last_said, said_where}
use Rattle.audit.specs.Runs.{view_after_calls}
use Rattle.audit.proofs.Sound.{Sound, kept}
use Rattle.audit.proofs.Table.{by_answer}

said_later : {X Y : Type 0} (f : X → Y) (later sooner : Option X) (y : Y)
    → option_map_or f (option_or later sooner) y ≡ option_map_or f later (option_map_or f sooner y)
said_later f (Some x) sooner y = refl
said_later f None sooner y = refl

-- where each accepted call leaves what it says, and what was there where it says nothing
module _ {X Y : Type 0} (meaning : Meaning) (says : Saying X) (f : X → Y) (look : View → Y)
    (once : (call : Call) (v : View) → Sound meaning v → refusal_of meaning call v ≡ None
    → look (view_after meaning call v) ≡ option_map_or f (says call (reply meaning call v)) (look v)) where
  step_said : (call : Call) (v : View) → Sound meaning v
      → look (step meaning call v) ≡ option_map_or f (said_where (says call) (answer meaning call v)) (look v)
  step_said call v sound =
      by_answer meaning call v (λ w answered. look w ≡ option_map_or f (said_where (says call) answered) (look v)) (λ refusal. refl) (once call v sound)

  pub run_said : (calls : List Call) (v : View) → Sound meaning v
      → look (view_after_calls meaning calls v) ≡ option_map_or f (last_said says (history meaning calls v)) (look v)
  run_said [] v sound = refl
  run_said (call ∷ calls) v sound =
      let w = step meaning call v in
      let later = last_said says (history meaning calls w) in
      run_said calls w (kept meaning call v sound).sound
      ∙ ap (option_map_or f later) (step_said call v sound)
      ∙ sym (said_later f later (said_where (says call) (answer meaning call v)) (look v))
