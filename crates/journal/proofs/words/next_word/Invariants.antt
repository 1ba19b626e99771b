use Rattle.std.proofs.Common.{◌≡◌, ◌≤◌, length}
use denote.Text.{Utf8}
use denote.Shadow.{shadow}
use Rattle.journal.specs.Words.{words_of}
use Rattle.journal.proofs.words.next_word.Given as goal

-- spaces alone were passed
abbrev pub invariant-loop-front : goal.invariant-loop-front
invariant-loop-front l =
    record {
      text : shadow (Utf8 l.left);
      same : words_of l.left ≡ words_of l.fn.text;
      within : length l.left ≤ length l.fn.text;
    }

abbrev pub decreases-loop-front : goal.decreases-loop-front
decreases-loop-front l = length l.left
