use Rattle.std.proofs.Common.{◌∙◌}
use Rattle.journal.proofs.Parsing.{parse_number}
use Rattle.journal.proofs.token.U32Token.parse.Goals as goal

pub returns : goal.returns
returns c = c.ok.ensures.value ∙ parse_number c.args.word.now c.parse.result c.parse.ensures.value.0
