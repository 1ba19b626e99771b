use Rattle.std.proofs.Common.{◌^◌, ◌<◌, rules, arith}
use Rattle.std.proofs.lemmas.Grind.{common_steps}
use Rattle.journal.proofs.ReadsBack.{reading_again, reading_word}
use Rattle.journal.proofs.token.ReadingToken.write.Goals as goal

pub returns : goal.returns
returns c =
    let kw : c.args.self.now.kw < 2 ^ 32 = search rules in
    let kva : c.args.self.now.kva < 2 ^ 32 = search rules in
    let again = reading_again c.args.self.now kw kva in
    let word = reading_word c.args.self.now kw kva in
    grind (arith, common_steps, again, word)
