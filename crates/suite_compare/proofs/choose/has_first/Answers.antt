use Rattle.std.proofs.Common.{◌∙◌, ap}
use Rattle.listed.specs.Lists.{has}
use Rattle.suite_compare.specs.FirstChoices.{is_one_of}
use Rattle.suite_compare.proofs.choose.has_first.Goals as goal

pub returns-in-None : goal.returns-in-None
returns-in-None c = ap (is_one_of (has c.args.chosen.now.1)) c.in-None.ensures.value

pub returns-in-Some : goal.returns-in-Some
returns-in-Some c = c.has.ensures ∙ ap (is_one_of (has c.args.chosen.now.1)) c.in-Some.ensures.value
