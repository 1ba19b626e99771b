use Rattle.std.proofs.Common.{rules, arith, w64, SFits}
use Rattle.std.proofs.lemmas.Grind.{common_steps}
use Rattle.journal.proofs.ReadsBack.{figure_again, figure_word}
use Rattle.journal.proofs.token.I64Token.write.Goals as goal

pub returns : goal.returns
returns c =
    let fits : SFits w64 c.args.self.now = search rules in
    let again = figure_again c.args.self.now fits in
    let word = figure_word c.args.self.now fits in
    grind (arith, common_steps, again, word)
