use Rattle.std.proofs.Common.{◌≡◌, ◌++◌, map, take, string_bytes}
use Rattle.journal.specs.Words.{words_text}
use Rattle.journal.proofs.ReadsBack.{ReadsBack}
use Rattle.journal.proofs.token.write_all.Given as goal

-- the front of the items is written, and is read as it
abbrev pub invariant-loop-item : goal.invariant-loop-item
invariant-loop-item g l =
    let front = take l.item-index l.items in
    record {
      text : string_bytes l.line ≡ string_bytes l.fn.line ++ words_text (map g.T.Token.text front);
      again : ReadsBack g.T.Token.parse g.T.Token.text front;
    }
