-- The words that calls begin with.
use Rattle.std.specs.Prelude.{ℕ, ◌==◌, List, Option, bytes_eq, codes, find}
use Rattle.std.specs.List.{before_first}
use Rattle.journal.specs.Words.{space}
use Rattle.journal.specs.declared.verb.TheConstants.Verb.{ALL}
use Rattle.journal.specs.declared.verb.Verb.{Verb}
use Rattle.journal.specs.declared.verb.Verb.TheVariants.{Memory, Rate, Rider, Open, Start, Reading, Readings, Day, Price, Prices, Schedule, Schedules, Load, Bill, TrueUp, Finalise, Due, Total, Text, Ledger, Statement}

-- what a call is written as
abbrev pub verb_form : Verb → List ℕ
verb_form Memory = codes "memory MONTHS ENTRIES"
verb_form Rate = codes "rate dts|gts [8 FIGURES], xts [4 FIGURES], dos K L [2 FIGURES] or sts L M [FIGURE]"
verb_form Rider = codes "rider energy NUMBER RATE, percent NUMBER FACTOR or psc NUMBER [5 FIGURES]"
verb_form Open = codes "open CODE CONTRACT SUBSTATION PEAK .."
verb_form Start = codes "start DAYS"
verb_form Reading = codes "reading MONTH QUARTER KW KVA"
verb_form Readings = codes "readings MONTH FIRST LAST KW KVA"
verb_form Day = codes "day MONTH DAY CODE KW/KVA .."
verb_form Price = codes "price MONTH HOUR CENTS"
verb_form Prices = codes "prices MONTH FIRST LAST CENTS"
verb_form Schedule = codes "schedule MONTH HOUR KW"
verb_form Schedules = codes "schedules MONTH FIRST LAST KW"
verb_form Load = codes "load readings|prices|schedule MONTH FILE"
verb_form Bill = codes "bill MONTH"
verb_form TrueUp = codes "true-up MONTH"
verb_form Finalise = codes "finalise MONTH"
verb_form Due = codes "due MONTH"
verb_form Total = codes "total MONTH LINE"
verb_form Text = codes "text ENTRY"
verb_form Ledger = codes "ledger"
verb_form Statement = codes "statement MONTH"

-- the form's first word
unfoldable pub verb_word : Verb → List ℕ
verb_word verb = before_first (λ byte. byte == space) (verb_form verb)

-- the first of these verbs that has the word
abbrev pub first_named : List ℕ → List Verb → Option Verb
first_named word verbs = find (λ verb. bytes_eq word (verb_word verb)) verbs

abbrev pub verb_named : List ℕ → Option Verb
verb_named word = first_named word ALL
