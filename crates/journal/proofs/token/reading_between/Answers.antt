use Rattle.std.proofs.Common.{arith}
use Rattle.std.proofs.lemmas.Grind.{common_steps}
use Rattle.journal.specs.Tokens.{reading_between}
use Rattle.journal.proofs.Parsing.{split_once-cut}
use Rattle.journal.proofs.token.reading_between.Goals as goal

pub returns-in_err-kw : goal.returns-in_err-kw
unfolding reading_between
returns-in_err-kw c =
    let cut =
    split_once-cut c.args.separator c.args.text.now c.split_once.result c.split_once.ensures.cases
    c.requires in
    grind (arith, common_steps, cut)

pub returns-in_err-kw-2 : goal.returns-in_err-kw-2
unfolding reading_between
returns-in_err-kw-2 c =
    let cut =
    split_once-cut c.args.separator c.args.text.now c.split_once.result c.split_once.ensures.cases
    c.requires in
    grind (arith, common_steps, cut)

pub returns-in_err-kva : goal.returns-in_err-kva
unfolding reading_between
returns-in_err-kva c =
    let cut =
    split_once-cut c.args.separator c.args.text.now c.split_once.result c.split_once.ensures.cases
    c.requires in
    grind (arith, common_steps, cut)

pub returns : goal.returns
unfolding reading_between
returns c =
    let cut =
    split_once-cut c.args.separator c.args.text.now c.split_once.result c.split_once.ensures.cases
    c.requires in
    grind (arith, common_steps, cut)
