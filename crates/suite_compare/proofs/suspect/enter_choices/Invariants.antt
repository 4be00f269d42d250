use Rattle.suite_compare.specs.Suspects.{AreHolders}
use Rattle.suite_compare.proofs.suspect.enter_choices.Given as goal

abbrev pub invariant-loop-kind : goal.invariant-loop-kind
invariant-loop-kind l = AreHolders l.kind l.choices l.table
