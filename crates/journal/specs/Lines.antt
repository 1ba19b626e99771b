-- The call that the words of a line are.
use Rattle.std.specs.Prelude.{◌≡◌, ℕ, List, [], ◌∷◌, Option, Some, None, Result, Ok, Err, ⊤}
use Rattle.std.specs.Option.{option_map}
use Rattle.store.specs.declared.post.Reading.{Reading as TheReading}
use Rattle.journal.specs.Drafts.{rate_of, rider_of}
use Rattle.journal.specs.Numbers.{call_of_numbers}
use Rattle.journal.specs.PostKinds.{kind_named}
use Rattle.journal.specs.Tokens.{parsed_number, parsed_reading, parsed_values}
use Rattle.journal.specs.Verbs.{verb_named}
use Rattle.journal.specs.Words.{◌>>=◌, first_word}
use Rattle.journal.specs.declared.call.Call.{Call}
use Rattle.journal.specs.declared.call.Call.TheVariants.{Rate as TheRate, Rider as TheRider, Open as TheOpen, PostDay as ThePostDay, Load as TheLoad}
use Rattle.journal.specs.declared.parse_error.ParseError.{ParseError}
use Rattle.journal.specs.declared.parse_error.ParseError.TheVariants.{OutOfMemory, NoCall, Expected}
use Rattle.journal.specs.declared.post_kind.PostKind.{PostKind}
use Rattle.journal.specs.declared.verb.Verb.{Verb}
use Rattle.journal.specs.declared.verb.Verb.TheVariants.{Rate, Rider, Open, Day, Load}

-- a call by its values, without where its texts and lists lie in memory
pub data CallValue : Type 0 where
  opening_call : (code : List ℕ) (contract substation : ℕ) (carried : List ℕ) → CallValue
  day_call : (month day : ℕ) (code : List ℕ) (readings : List TheReading) → CallValue
  load_call : (kind : PostKind) (month : ℕ) (file : List ℕ) → CallValue
  plain : (call : Call) → CallValue

abbrev pub call_value : Call → CallValue
call_value (TheOpen code contract substation carried) =
    opening_call code.now contract substation carried.items
call_value (ThePostDay month day code readings) = day_call month day code.now readings.items
call_value (TheLoad kind month file) = load_call kind month file.now
call_value call = plain call

abbrev pub first_number : List (List ℕ) → Option (ℕ × List (List ℕ))
first_number words = do
  word ← first_word words
  number ← parsed_number word.0
  Some (number, word.1)

-- where no word is left
abbrev pub last_value : {X : Type 0} → List (List ℕ) → X → Option X
last_value [] made = Some made
last_value words made = None

-- CODE CONTRACT SUBSTATION PEAK ..
abbrev pub open_of : List (List ℕ) → Option CallValue
open_of words = do
  code ← first_word words
  contract ← first_number code.1
  substation ← first_number contract.1
  carried ← parsed_values parsed_number substation.1
  Some (opening_call code.0 contract.0 substation.0 carried)

-- MONTH DAY CODE KW/KVA ..
abbrev pub post_day_of : List (List ℕ) → Option CallValue
post_day_of words = do
  month ← first_number words
  day ← first_number month.1
  code ← first_word day.1
  readings ← parsed_values parsed_reading code.1
  Some (day_call month.0 day.0 code.0 readings)

-- readings, prices or schedule, MONTH FILE
abbrev pub load_of : List (List ℕ) → Option CallValue
load_of words = do
  name ← first_word words
  kind ← kind_named name.0
  month ← first_number name.1
  file ← first_word month.1
  last_value file.1 (load_call kind month.0 file.0)

abbrev pub numbers_call : Verb → List (List ℕ) → Option CallValue
numbers_call verb words = do
  numbers ← parsed_values parsed_number words
  option_map plain (call_of_numbers verb numbers)

-- the call of a verb and the words after it
abbrev pub call_of_verb : Verb → List (List ℕ) → Option CallValue
call_of_verb Rate words = option_map (λ draft. plain (TheRate draft)) (rate_of words)
call_of_verb Rider words = option_map (λ draft. plain (TheRider draft)) (rider_of words)
call_of_verb Open words = open_of words
call_of_verb Day words = post_day_of words
call_of_verb Load words = load_of words
call_of_verb verb words = numbers_call verb words

-- a line whose first word is no call's, or whose other words are not that call's
abbrev pub call_result : ParseError → Option CallValue → Result (Option CallValue) ParseError
call_result error None = Err error
call_result error (Some call) = Ok (Some call)

abbrev pub verb_result : Option Verb → List (List ℕ) → Result (Option CallValue) ParseError
verb_result None words = Err NoCall
verb_result (Some verb) words = call_result (Expected verb) (call_of_verb verb words)

-- what a line of these words is: a call, nothing where there is no word, or an error
abbrev pub parse_result : List (List ℕ) → Result (Option CallValue) ParseError
parse_result [] = Ok None
parse_result (name ∷ words) = verb_result (verb_named name) words

-- a result is what is wanted, unless memory ran out
abbrev pub Gives : Result (Option Call) ParseError → Result (Option CallValue) ParseError → Type 0
Gives (Ok call) wanted = wanted ≡ Ok (option_map call_value call)
Gives (Err OutOfMemory) wanted = ⊤
Gives (Err error) wanted = wanted ≡ Err error
