-- A call's verb is known by its word.
use Rattle.std.proofs.Common.{◌≡◌, true, Some, refl}
use Rattle.journal.specs.Words.{is_word}
use Rattle.journal.specs.Verbs.{verb_named, verb_word}
use Rattle.journal.specs.declared.verb.Verb.{Verb}
use Rattle.journal.specs.declared.verb.Verb.TheVariants.{Memory}

pub verb_again : (verb : Verb) → verb_named (verb_word verb) ≡ Some verb
unfolding verb_word
verb_again Memory = refl
verb_again verb = refl

pub verb_is_word : (verb : Verb) → is_word (verb_word verb) ≡ true
unfolding verb_word
verb_is_word Memory = refl
verb_is_word verb = refl
