use Rattle.std.proofs.Common.{refl, ◌∙◌, arith}
use Rattle.ledger.proofs.Texts.{laid_more}
use Rattle.ledger.proofs.entry.put.Goals as goal

pub returns-clause-laid : goal.returns-clause-laid
returns-clause-laid c =
    let text = c.copy_from_slice.ensures.after ∙ c.as_bytes.ensures.value in
    λ done before laid. rw text (laid_more done before c.args.bytes.now c.args.text.now c.args.at laid _ _ (omega arith) refl c.requires.room)
