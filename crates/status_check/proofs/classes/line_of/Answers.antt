use Rattle.std.proofs.Common.{◌∙◌}
use Rattle.status_check.proofs.HadGoals.{line_made}
use Rattle.status_check.proofs.classes.line_of.Goals as goal

pub returns : goal.returns
returns c = λ index had.
    line_made index c.args.facts.now c.in_ok-name.name c.in_ok-version.version c.args.had (c.in_ok-name.ensures ∙ c.as_slice.ensures) (c.in_ok-version.ensures ∙ c.text.ensures.value) had
