use Rattle.std.proofs.Common.{◌≡◌, ◌<◌, [], length, sym, ap, ◌∙◌, rules, arith}
use Rattle.std.proofs.lemmas.Grind.{common_steps}
use Rattle.journal.specs.Words.{words_of}
use Rattle.journal.proofs.Texts.{no_word, words_cut, words_left}
use Rattle.journal.proofs.words.next_word.Goals as goal

pub returns-then-not-is_empty-clause-words : goal.returns-then-not-is_empty-clause-words
returns-then-not-is_empty-clause-words c =
    let some : 0 < length c.in-Some.front.now = grind (arith, common_steps) in
    sym c.loop-front.invariant.same
    ∙ (words_cut c.loop-front.left.now c.split_once.result c.split_once.ensures.cases _ c.in-Some.is).0 some

pub loop-front-preserved : goal.loop-front-preserved
loop-front-preserved c =
    let empty : length c.in-Some.front.now ≡ 0 = grind (arith, common_steps) in
    record {
      text = search rules;
      same =
          sym ((words_cut c.loop-front.left.now c.split_once.result c.split_once.ensures.cases _
          c.in-Some.is).1 empty)
          ∙ c.loop-front.invariant.same;
      within = grind (arith, common_steps);
    }

pub returns-then-is_empty-clause-words : goal.returns-then-is_empty-clause-words
returns-then-is_empty-clause-words c =
    let empty : c.loop-front.left.now ≡ [] = grind (arith, common_steps) in
    sym c.loop-front.invariant.same ∙ ap words_of empty ∙ no_word

pub returns-else-is_empty-clause-words : goal.returns-else-is_empty-clause-words
returns-else-is_empty-clause-words c =
    let some : 0 < length c.loop-front.left.now = grind (arith, common_steps) in
    sym c.loop-front.invariant.same
    ∙ words_left c.loop-front.left.now c.split_once.result c.split_once.ensures.cases (search rules) some
