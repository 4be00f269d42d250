use Rattle.std.proofs.Common.{take}
use Rattle.clause_pool.specs.Interned.{clauses_at}
use Rattle.row_book.specs.{Sets.{HitsAll}, Flags.{flag}}
use Rattle.row_book.proofs.health.first_unhit.Given as goal

abbrev pub invariant-loop-place : goal.invariant-loop-place
invariant-loop-place l = HitsAll (flag l.chosen) (clauses_at l.pool (take l.place l.ids))
