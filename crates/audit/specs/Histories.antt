-- What an onlooker has of a run: each call, and what it was answered.
use Rattle.std.specs.Prelude.{◌≡◌, ℕ, ◌+◌, List, [], ◌∷◌, ◌⊎◌, None, Ok, Err, IsOk, Option, Result}
use Rattle.std.specs.Option.{option_or}
use Rattle.book.specs.Calls.{Call, Reply, bills, trues_up}
use Rattle.book.specs.Steps.{answer, step}
use Rattle.book.specs.Views.{View}
use Rattle.tariff.specs.Pricing.{Meaning}
use Rattle.tariff.specs.declared.refusal.Refusal.{Refusal}

-- a call, and what it was answered
pub record Turn : Type 0 where
  pub call : Call
  pub answered : Result (Reply call) Refusal

-- the turns of a run, the first one first
abbrev pub history : Meaning → List Call → View → List Turn
history meaning [] v = []
history meaning (call ∷ calls) v =
    record { call = call; answered = answer meaning call v } ∷ history meaning calls (step meaning call v)

-- what an accepted call says of a thing, by the call and its reply; none where it says nothing of it
abbrev pub Saying : Type 0 → Type 0
Saying X = (call : Call) → Reply call → Option X

-- a refused call says nothing
abbrev pub said_where : {X R : Type 0} → (R → Option X) → Result R Refusal → Option X
said_where says (Ok reply) = says reply
said_where says (Err refusal) = None

abbrev pub said : {X : Type 0} → Saying X → Turn → Option X
said says turn = said_where (says turn.call) turn.answered

-- what was said by the last of the turns that said anything
abbrev pub last_said : {X : Type 0} → Saying X → List Turn → Option X
last_said says [] = None
last_said says (turn ∷ turns) = option_or (last_said says turns) (said says turn)

-- how many entries an accepted bill or true-up answered that it wrote; 0 for any other turn
abbrev pub number_returned : (call : Call) → Result (Reply call) Refusal → ℕ
number_returned _ (Err refusal) = 0
number_returned (bills m) (Ok count) = count
number_returned (trues_up m) (Ok count) = count
number_returned _ _ = 0

-- those numbers of all the turns, added up
abbrev pub numbers_returned : List Turn → ℕ
numbers_returned [] = 0
numbers_returned (turn ∷ turns) = number_returned turn.call turn.answered + numbers_returned turns

-- such a call was accepted in one of the turns
abbrev pub HasAccepted : Call → List Turn → Type 0
HasAccepted call [] = ⊥
HasAccepted call (turn ∷ turns) =
    ((turn.call ≡ call) × IsOk turn.answered) ⊎ HasAccepted call turns
