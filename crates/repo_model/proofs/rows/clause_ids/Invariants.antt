use Rattle.std.proofs.Common.{map, take}
use Rattle.repo_model.specs.{Interning.{HasIds}, Repository.{clause_of}}
use Rattle.repo_model.proofs.rows.clause_ids.Given as goal

abbrev pub invariant-loop-element : goal.invariant-loop-element
invariant-loop-element l = HasIds l.fn.pool l.pool (map (clause_of l.home l.packages) (take l.element-index l.elements)) l.ids.items
