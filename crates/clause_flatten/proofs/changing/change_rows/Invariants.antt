use Rattle.std.proofs.Common.{drop}
use Rattle.clause_pool.specs.Interned.{Kept}
use Rattle.clause_flatten.specs.Ready.{AreReady, table_of}
use Rattle.clause_flatten.proofs.Halfway.{Halfway}
use Rattle.clause_flatten.proofs.changing.change_rows.Given as goal

abbrev pub invariant-loop-place : goal.invariant-loop-place
invariant-loop-place l = record {
  rows : Halfway (table_of l.fn.pool l.fn.rows) l.gone (drop l.place l.users) (table_of l.pool l.rows);
  ready : AreReady l.pool l.rows l.uses;
  kept : Kept l.fn.pool l.pool;
}
