-- Calls that are written by numbers alone.
use Rattle.std.specs.Prelude.{ℕ, List, [], ◌∷◌, Option, Some, None}
use Rattle.store.specs.declared.post.Post.TheVariants.{Reading as AReading, Price as APrice, Scheduled as AScheduled}
use Rattle.journal.specs.declared.call.Call.{Call}
use Rattle.journal.specs.declared.call.Call.TheVariants.{Memory as TheMemory, Start as TheStart, Post as ThePost, PostRange as ThePostRange, Bill as TheBill, TrueUp as TheTrueUp, Finalise as TheFinalise, Due as TheDue, Total as TheTotal, Text as TheText, Ledger as TheLedger, Statement as TheStatement}
use Rattle.journal.specs.declared.verb.Verb.{Verb}
use Rattle.journal.specs.declared.verb.Verb.TheVariants.{Memory, Start, Reading, Readings, Price, Prices, Schedule, Schedules, Bill, TrueUp, Finalise, Due, Total, Text, Ledger, Statement}

-- the call of a verb and all its numbers, where it takes just so many
abbrev pub call_of_numbers : Verb → List ℕ → Option Call
call_of_numbers Memory (months ∷ entries ∷ []) = Some (TheMemory months entries)
call_of_numbers Start (days ∷ []) = Some (TheStart days)
call_of_numbers Reading (month ∷ place ∷ kw ∷ kva ∷ []) =
    Some (ThePost month place (AReading (record { kw = kw; kva = kva })))
call_of_numbers Price (month ∷ place ∷ cents ∷ []) = Some (ThePost month place (APrice cents))
call_of_numbers Schedule (month ∷ place ∷ kw ∷ []) = Some (ThePost month place (AScheduled kw))
call_of_numbers Readings (month ∷ first ∷ last ∷ kw ∷ kva ∷ []) =
    Some (ThePostRange month first last (AReading (record { kw = kw; kva = kva })))
call_of_numbers Prices (month ∷ first ∷ last ∷ cents ∷ []) =
    Some (ThePostRange month first last (APrice cents))
call_of_numbers Schedules (month ∷ first ∷ last ∷ kw ∷ []) =
    Some (ThePostRange month first last (AScheduled kw))
call_of_numbers Bill (month ∷ []) = Some (TheBill month)
call_of_numbers TrueUp (month ∷ []) = Some (TheTrueUp month)
call_of_numbers Finalise (month ∷ []) = Some (TheFinalise month)
call_of_numbers Due (month ∷ []) = Some (TheDue month)
call_of_numbers Total (month ∷ line ∷ []) = Some (TheTotal month line)
call_of_numbers Text (entry ∷ []) = Some (TheText entry)
call_of_numbers Ledger [] = Some TheLedger
call_of_numbers Statement (month ∷ []) = Some (TheStatement month)
call_of_numbers verb numbers = None
