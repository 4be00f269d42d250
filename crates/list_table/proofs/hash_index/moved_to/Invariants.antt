use Rattle.list_table.proofs.Index.{Moves}
use Rattle.list_table.proofs.hash_index.moved_to.Given as goal

abbrev pub invariant-loop-place : goal.invariant-loop-place
invariant-loop-place l = Moves l.from l.places.items l.size l.place-index
