use Rattle.std.proofs.Common.{◌≡◌, filter, take}
use Rattle.clause_pool.specs.Interned.{clause_at}
use Rattle.conflict_reduce.specs.Live.{may_face}
use Rattle.conflict_reduce.proofs.live.live_row.Given as goal

abbrev pub invariant-loop-id : goal.invariant-loop-id
invariant-loop-id l = l.made ≡ filter (λ id. may_face l.table (clause_at l.pool id)) (take l.id-index l.row)
