use Rattle.std.proofs.Common.{ℕ, take}
use Rattle.clause_pool.specs.Interned.{clause_at}
use Rattle.listed.specs.Lists.{In}
use Rattle.clause_prune.specs.Filing.{IsFiled, Takes, filed_in}
use Rattle.clause_prune.proofs.filing.file_row.Given as goal

abbrev pub invariant-loop-id : goal.invariant-loop-id
invariant-loop-id l = record {
  filed : (id : ℕ) → In id (take l.id-index l.row) → IsFiled l.pruned.pool.now l.members (filed_in l.always.items l.lists) (clause_at l.pruned.pool.now id) l.member;
  takes : Takes l.pruned.number l.member l.row (filed_in l.fn.always.items l.fn.lists) (filed_in l.always.items l.lists);
}
