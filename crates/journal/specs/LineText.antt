-- A call written as a line: the words that write it, and the text that they make.
use Rattle.std.specs.Prelude.{ℕ, ◌++◌, List, [], ◌∷◌, map, IsTrue, decimal, ⊤}
use Rattle.store.specs.declared.post.Post.TheVariants.{Reading as AReading, Price as APrice, Scheduled as AScheduled}
use Rattle.journal.specs.Drafts.{rate_words, rider_words}
use Rattle.journal.specs.PostKinds.{kind_word}
use Rattle.journal.specs.Tokens.{reading_text}
use Rattle.journal.specs.Verbs.{verb_word}
use Rattle.journal.specs.Words.{is_word, words_text}
use Rattle.journal.specs.declared.call.Call.{Call}
use Rattle.journal.specs.declared.call.Call.TheVariants.{Memory as TheMemory, Rate as TheRate, Rider as TheRider, Open as TheOpen, Start as TheStart, Post as ThePost, PostRange as ThePostRange, PostDay as ThePostDay, Load as TheLoad, Bill as TheBill, TrueUp as TheTrueUp, Finalise as TheFinalise, Due as TheDue, Total as TheTotal, Text as TheText, Ledger as TheLedger, Statement as TheStatement}
use Rattle.journal.specs.declared.verb.Verb.{Verb}
use Rattle.journal.specs.declared.verb.Verb.TheVariants.{Memory, Rate, Rider, Open, Start, Reading, Readings, Day, Price, Prices, Schedule, Schedules, Load, Bill, TrueUp, Finalise, Due, Total, Text, Ledger, Statement}

abbrev pub numbers_text : List ℕ → List (List ℕ)
numbers_text numbers = map decimal numbers

-- the verb of a call, and the words after it
abbrev pub parts_of : Call → Verb × List (List ℕ)
parts_of (TheMemory months entries) = (Memory, numbers_text (months ∷ entries ∷ []))
parts_of (TheRate draft) = (Rate, rate_words draft)
parts_of (TheRider draft) = (Rider, rider_words draft)
parts_of (TheOpen code contract substation carried) =
    (Open, code.now ∷ numbers_text (contract ∷ substation ∷ carried.items))
parts_of (TheStart days) = (Start, numbers_text (days ∷ []))
parts_of (ThePost month place (AReading reading)) =
    (Reading, numbers_text (month ∷ place ∷ reading.kw ∷ reading.kva ∷ []))
parts_of (ThePost month place (APrice cents)) = (Price, numbers_text (month ∷ place ∷ cents ∷ []))
parts_of (ThePost month place (AScheduled kw)) = (Schedule, numbers_text (month ∷ place ∷ kw ∷ []))
parts_of (ThePostRange month first last (AReading reading)) =
    (Readings, numbers_text (month ∷ first ∷ last ∷ reading.kw ∷ reading.kva ∷ []))
parts_of (ThePostRange month first last (APrice cents)) =
    (Prices, numbers_text (month ∷ first ∷ last ∷ cents ∷ []))
parts_of (ThePostRange month first last (AScheduled kw)) =
    (Schedules, numbers_text (month ∷ first ∷ last ∷ kw ∷ []))
parts_of (ThePostDay month day code readings) =
    (Day, decimal month ∷ decimal day ∷ code.now ∷ map reading_text readings.items)
parts_of (TheLoad kind month file) = (Load, kind_word kind ∷ decimal month ∷ file.now ∷ [])
parts_of (TheBill month) = (Bill, numbers_text (month ∷ []))
parts_of (TheTrueUp month) = (TrueUp, numbers_text (month ∷ []))
parts_of (TheFinalise month) = (Finalise, numbers_text (month ∷ []))
parts_of (TheDue month) = (Due, numbers_text (month ∷ []))
parts_of (TheTotal month line) = (Total, numbers_text (month ∷ line ∷ []))
parts_of (TheText entry) = (Text, numbers_text (entry ∷ []))
parts_of TheLedger = (Ledger, [])
parts_of (TheStatement month) = (Statement, numbers_text (month ∷ []))

-- the line that writes a call
abbrev pub line_text : Call → List ℕ
line_text call = verb_word (parts_of call).0 ++ words_text (parts_of call).1

-- what a call names by a text stands in its line as one word
abbrev pub IsWritable : Call → Type 0
IsWritable (TheOpen code contract substation carried) = IsTrue (is_word code.now)
IsWritable (ThePostDay month day code readings) = IsTrue (is_word code.now)
IsWritable (TheLoad kind month file) = IsTrue (is_word file.now)
IsWritable call = ⊤
