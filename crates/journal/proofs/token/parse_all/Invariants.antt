use Rattle.std.proofs.Common.{◌≡◌, ◌++◌, length}
use Rattle.std.specs.Option.{option_map}
use denote.Text.{Utf8}
use denote.Shadow.{shadow}
use Rattle.journal.specs.Tokens.{parsed_values}
use Rattle.journal.specs.Words.{words_of}
use Rattle.journal.proofs.token.parse_all.Given as goal

-- what was found, and then what the text left says, is what the text says
abbrev pub invariant-loop-word : goal.invariant-loop-word
invariant-loop-word g l = record {
  text : shadow (Utf8 l.left);
  found : option_map (λ more. l.items.items ++ more) (parsed_values g.T.Token.parse (words_of l.left))
      ≡ parsed_values g.T.Token.parse (words_of l.fn.text);
}

abbrev pub decreases-loop-word : goal.decreases-loop-word
decreases-loop-word g l = length l.left
