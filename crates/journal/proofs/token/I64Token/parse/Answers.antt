use Rattle.std.proofs.Common.{◌∙◌}
use Rattle.journal.proofs.Parsing.{parse_figure}
use Rattle.journal.proofs.token.I64Token.parse.Goals as goal

pub returns : goal.returns
returns c = c.ok.ensures.value ∙ parse_figure c.args.word.now c.parse.result c.parse.ensures.value.0
