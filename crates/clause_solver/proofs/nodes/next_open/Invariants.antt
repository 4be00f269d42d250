use Rattle.std.proofs.Common.{◌≡◌, ℕ, ◌<◌, ◌≤◌, [], get_or, false}
use Rattle.search_terms.specs.Tree.{is_open_need}
use Rattle.clause_solver.specs.Marking.{set_of_trail}
use Rattle.clause_solver.proofs.nodes.next_open.Given as goal

abbrev pub invariant-loop-k : goal.invariant-loop-k
invariant-loop-k l = (j : ℕ) → l.from ≤ j → j < l.k → is_open_need (set_of_trail l.trail.1) (get_or l.own j []) ≡ false
