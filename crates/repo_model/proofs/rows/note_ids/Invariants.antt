use Rattle.std.proofs.Common.{◌≡◌, get_or, map, take}
use Rattle.repo_model.proofs.rows.note_ids.Given as goal

abbrev pub invariant-loop-rank : goal.invariant-loop-rank
invariant-loop-rank l = l.made.items ≡ map (λ rank. get_or l.order rank 0) (take l.rank-index l.ranks)
