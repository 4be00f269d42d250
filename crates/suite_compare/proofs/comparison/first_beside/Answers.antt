use Rattle.std.proofs.Common.{◌∙◌}
use Rattle.suite_compare.proofs.comparison.first_beside.Goals as goal

pub returns-clause-first : goal.returns-clause-first
returns-clause-first c = λ v w are. c.in_ok-line.ensures ∙ c.in_ok-lines.ensures.lines v w are

pub returns-clause-known : goal.returns-clause-known
returns-clause-known c = c.in_ok-lines.ensures.known
