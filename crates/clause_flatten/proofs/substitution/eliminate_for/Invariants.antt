use Rattle.std.proofs.Common.{◌≡◌, drop}
use Rattle.row_book.specs.Uses.{uses_of}
use Rattle.clause_flatten.proofs.Midway.{Midway}
use Rattle.clause_flatten.proofs.substitution.eliminate_for.Given as goal

abbrev pub invariant-loop-place : goal.invariant-loop-place
invariant-loop-place l = record {
  rows : Midway l.fn.pool l.fn.rows l.gone l.pool l.rows (drop l.place l.users);
  table : l.uses ≡ uses_of l.pool l.rows;
}
