use Rattle.std.proofs.Common.{◌≡◌}
use Rattle.suite_compare.specs.Suspects.{without_choice}
use Rattle.suite_compare.proofs.suspect.without_choice.Given as goal

abbrev pub invariant-loop-kind : goal.invariant-loop-kind
invariant-loop-kind l = l.without.items ≡ without_choice l.choices l.kind
