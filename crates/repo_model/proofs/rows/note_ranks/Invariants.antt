use Rattle.std.proofs.Common.{◌≡◌, get_or, map, take}
use Rattle.repo_model.proofs.rows.note_ranks.Given as goal

abbrev pub invariant-loop-mark : goal.invariant-loop-mark
invariant-loop-mark l = l.made.items ≡ map (λ mark. get_or l.ranks mark 0) (take l.mark-index l.marks)
