use Rattle.std.proofs.Common.{◌∙◌, ◌∷◌, ap, length, sym, take}
use Rattle.listed.proofs.Lists.{none_listed, to_end}
use Rattle.status_check.specs.Installed.{words}
use Rattle.status_check.proofs.{HadGoals.{some_numbers}, Words.{first_word, no_word}}
use Rattle.status_check.proofs.installed.next_word.Goals as goal

pub returns-then-is_empty : goal.returns-then-is_empty
returns-then-is_empty c = no_word c.args.text.now c.skip_white-start.result.now c.skip_white-start.ensures (none_listed c.skip_white-start.result.now (sym c.is_empty.ensures ∙ c.if-is_empty.true))

pub returns : goal.returns
returns c = first_word c.args.text.now c.skip_white-start.result.now c.word_size-size.result c.skip_white-start.ensures (some_numbers (length c.skip_white-start.result.now) (sym c.is_empty.ensures ∙ c.if-is_empty.false)) c.word_size-size.ensures.place
    ∙ ap (λ rest. take c.word_size-size.result c.skip_white-start.result.now ∷ words rest) (sym (to_end c.word_size-size.result c.skip_white-start.result.now))
