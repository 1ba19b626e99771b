use Rattle.std.proofs.Common.{◌^◌, ◌<◌, rules, arith}
use Rattle.std.proofs.lemmas.Grind.{common_steps}
use Rattle.journal.proofs.ReadsBack.{number_again, number_word}
use Rattle.journal.proofs.token.U32Token.write.Goals as goal

pub returns : goal.returns
returns c =
    let small : c.args.self.now < 2 ^ 32 = search rules in
    let again = number_again c.args.self.now small in
    let word = number_word c.args.self.now small in
    grind (arith, common_steps, again, word)
