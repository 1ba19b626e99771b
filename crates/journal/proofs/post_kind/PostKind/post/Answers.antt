use Rattle.std.proofs.Common.{lit<, arith}
use Rattle.std.proofs.lemmas.Grind.{common_steps}
use Rattle.journal.specs.PostKinds.{post_of}
use Rattle.journal.proofs.Parsing.{split_once-cut}
use Rattle.journal.proofs.post_kind.PostKind.post.Goals as goal

pub returns-in_err-place : goal.returns-in_err-place
unfolding post_of
returns-in_err-place c =
    let cut =
    split_once-cut 44 c.args.word.now c.split_once.result c.split_once.ensures.cases (lit< tt) in
    grind (arith, common_steps, cut)

pub returns-in_err-place-2 : goal.returns-in_err-place-2
unfolding post_of
returns-in_err-place-2 c =
    let cut =
    split_once-cut 44 c.args.word.now c.split_once.result c.split_once.ensures.cases (lit< tt) in
    grind (arith, common_steps, cut)

pub returns-in_err-post : goal.returns-in_err-post
unfolding post_of
returns-in_err-post c =
    let cut =
    split_once-cut 44 c.args.word.now c.split_once.result c.split_once.ensures.cases (lit< tt) in
    grind (arith, common_steps, cut)

pub returns : goal.returns
unfolding post_of
returns c =
    let cut =
    split_once-cut 44 c.args.word.now c.split_once.result c.split_once.ensures.cases (lit< tt) in
    grind (arith, common_steps, cut)
