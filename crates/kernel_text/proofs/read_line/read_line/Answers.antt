use Rattle.std.specs.Option.{option_copied}
use Rattle.std.proofs.lemmas.Result.{IfOk-weaker}
use Rattle.kernel_text.specs.Words.{LineIsRead, WordsAreRead}
use Rattle.kernel_text.proofs.LineWords.{feed_missed, feed_found, no_feed_no_line, read_words_are_line}
use Rattle.kernel_text.proofs.read_line.read_line.Goals as goal

pub returns-in_default : goal.returns-in_default
returns-in_default c = no_feed_no_line c.args.line.now (feed_missed c.args.line.now c.in_default.ensures.cases)

pub returns : goal.returns
returns c =
    let line = c.args.line.now in
    let body = c.in-Some.body.now in
    let word = c.cut_line.result.0.now in
    let rest = option_copied c.cut_line.result.1 in
    IfOk-weaker c.read_words.result (WordsAreRead word rest) (LineIsRead line)
    (λ read w. read_words_are_line line body word rest read (feed_found line body c.in-Some.ensures.cases.0 c.in-Some.ensures.cases.1) c.cut_line.ensures w)
    c.read_words.ensures
