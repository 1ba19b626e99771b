use Rattle.std.proofs.Common.{rules, ◌≡◌}
use Rattle.std.specs.Fmt.{signed_decimal}
use Rattle.ledger.proofs.Texts.{line_laid, nothing_laid, pieces_fit}
use Rattle.ledger.proofs.entry.Entry.write_line.Goals as goal

pub put-at-requires-7 : goal.put-at-requires-7
put-at-requires-7 c =
    let cents : c.format-3.result.now ≡ signed_decimal c.args.self.now.cents = search (rules, c.format-3.ensures.text) in
    let fit = pieces_fit c.args.self.now c.text.result.now c.format-3.result.now c.requires.owed c.text.ensures cents in
    search (rules, fit.0, fit.1)

pub put-requires : goal.put-requires
put-requires c =
    let cents : c.format-3.result.now ≡ signed_decimal c.args.self.now.cents = search (rules, c.format-3.ensures.text) in
    let fit = pieces_fit c.args.self.now c.text.result.now c.format-3.result.now c.requires.owed c.text.ensures cents in
    search (rules, fit.0, fit.1)

pub returns : goal.returns
returns c =
    let first = c.put-at-2.ensures.laid _ _ (c.put-at.ensures.laid _ _ (nothing_laid c.args.bytes.now)) in
    let half = c.put-at-4.ensures.laid _ _ (c.put-at-3.ensures.laid _ _ first) in
    let most = c.put-at-6.ensures.laid _ _ (c.put-at-5.ensures.laid _ _ half) in
    let all = c.put.ensures.laid _ _ (c.put-at-7.ensures.laid _ _ most) in
    let cents : c.format-3.result.now ≡ signed_decimal c.args.self.now.cents = search (rules, c.format-3.ensures.text) in
    line_laid c.args.self.now c.args.bytes.now c.put.new.bytes _ _ _ _ c.put.result c.format.ensures.text c.text.ensures c.format-2.ensures.text cents all
