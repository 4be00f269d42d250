use Rattle.std.proofs.Common.{◌≡◌, ℕ, List, take}
use Rattle.clause_solver.specs.declared.outcomes.Verdict.{Verdict}
use Rattle.suite_compare.specs.Comparing.{told_singles, AreBothVerdicts}
use Rattle.suite_compare.proofs.comparison.single_lines.Given as goal

abbrev pub invariant-loop-place : goal.invariant-loop-place
invariant-loop-place l = (v w : List (List ℕ) → Verdict) → AreBothVerdicts l.sides v w → l.lines ≡ told_singles v w (take l.place l.sides.common.names.items)
