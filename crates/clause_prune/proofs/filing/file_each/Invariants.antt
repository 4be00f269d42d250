use Rattle.std.proofs.Common.{ℕ, List, take}
use Rattle.listed.specs.Lists.{In}
use Rattle.row_book.specs.Repository.{clauses_of}
use Rattle.clause_prune.specs.{Filing.{FiledFor, IsFiled, filed_in}, PrunedPackages.{bare_with}}
use Rattle.clause_prune.proofs.filing.file_each.Given as goal

abbrev pub invariant-loop-member : goal.invariant-loop-member
invariant-loop-member l = record {
  filed : (n : ℕ) → In n (take l.member-index l.members) → (e : List ℕ) → In e (clauses_of (bare_with l.pruned l.left) n) → IsFiled l.pruned.pool.now l.members (filed_in l.always.items l.lists) e n;
  sound : FiledFor l.pruned.pool.now l.pruned.rows.now l.pruned.number (filed_in l.fn.always.items l.fn.lists) → FiledFor l.pruned.pool.now l.pruned.rows.now l.pruned.number (filed_in l.always.items l.lists);
}
