use Rattle.std.proofs.Common.{◌≡◌, ◌++◌, string_bytes, ap, ◌∙◌}
use Rattle.journal.specs.LineText.{line_text, parts_of}
use Rattle.journal.specs.Lines.{verb_result, call_result, parse_result}
use Rattle.journal.specs.Verbs.{verb_word}
use Rattle.journal.specs.Words.{uncommented, words_of, words_text}
use Rattle.journal.specs.declared.parse_error.ParseError.TheVariants.{Expected}
use Rattle.journal.proofs.LineWords.{text_uncommented, text_words}
use Rattle.journal.proofs.VerbWords.{verb_again, verb_is_word}
use Rattle.journal.proofs.call.Call.write.Goals as goal

pub returns-clause-again : goal.returns-clause-again
returns-clause-again c writable =
    let verb = (parts_of c.args.self.now).0 in
    let words = (parts_of c.args.self.now).1 in
    let after = c.in_ok-write_words.ensures in
    let begun : string_bytes c.in_ok-line.line ≡ verb_word verb =
    c.in_ok-line.ensures.ok ∙ c.word.ensures ∙ ap verb_word c.verb.ensures in
    let whole : string_bytes c.write_words.new.line ≡ line_text c.args.self.now =
    after.written ∙ ap (λ t. t ++ words_text words) begun in
    ap (λ t. parse_result (words_of (uncommented t))) whole
    ∙ ap (λ t. parse_result (words_of t))
    (text_uncommented (verb_word verb) words (verb_is_word verb) (after.words writable))
    ∙ ap parse_result (text_words (verb_word verb) words (verb_is_word verb) (after.words writable))
    ∙ ap (λ v. verb_result v words) (verb_again verb)
    ∙ ap (call_result (Expected verb)) after.again
