use Rattle.std.proofs.Common.{◌++◌, [], ◌∷◌, map, take, string_bytes, sym, ap, subst, ◌∙◌, append_assoc, append-nil}
use Rattle.std.proofs.lemmas.List.{map-append, take_all, take_more}
use Rattle.journal.specs.Words.{words_text}
use Rattle.journal.proofs.ReadsBack.{ReadsBack, ReadsBack-all, ReadsBack-more, ReadsBack-none, words_text_more}
use Rattle.journal.proofs.token.write_all.Goals as goal

pub loop-item-init : goal.loop-item-init
loop-item-init g c =
    record {
      text =
          sym (append-nil (string_bytes c.args.line.now));
      again = ReadsBack-none g.T.Token.parse g.T.Token.text;
    }

pub loop-item-preserved : goal.loop-item-preserved
loop-item-preserved g c =
    let text = g.T.Token.text in
    let items = c.args.items.now in
    let x = c.item-item.result in
    let front = take c.loop-item.item-index items in
    let before = string_bytes c.args.line.now in
    let split =
    take_more items c.loop-item.item-index x c.loop-item-test.true
    ∙ ap (λ y. front ++ (y ∷ [])) (sym c.item-item.is) in
    let item = c.in_ok-write.ensures in
    record {
      text = item.written ∙ ap (λ t. t ++ words_text (text x ∷ [])) c.loop-item.invariant.text
          ∙ append_assoc before (words_text (map text front)) (words_text (text x ∷ []))
          ∙ ap (λ t. before ++ t) (sym (words_text_more (map text front) (text x)))
          ∙ ap (λ w. before ++ words_text w) (sym (map-append text front (x ∷ [])))
          ∙ ap (λ f. before ++ words_text (map text f)) (sym split);
      again =
          subst (ReadsBack g.T.Token.parse text) (sym split)
          (ReadsBack-more g.T.Token.parse text front x c.loop-item.invariant.again item.word item.again);
    }

pub returns : goal.returns
returns g c =
    let text = g.T.Token.text in
    let whole = take_all c.loop-item.item-index c.args.items.now c.loop-item-test.false in
    let (words, again) =
    ReadsBack-all g.T.Token.parse text c.args.items.now
    (subst (ReadsBack g.T.Token.parse text) whole c.loop-item.invariant.again) in
    record {
      written = c.loop-item.invariant.text
          ∙ ap (λ f. string_bytes c.args.line.now ++ words_text (map text f)) whole;
      words = words;
      again = again;
    }
