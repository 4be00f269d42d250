use Rattle.std.proofs.Common.{take}
use Rattle.clause_pool.specs.Interned.{clauses_at}
use Rattle.row_book.specs.Flags.{flag}
use Rattle.install_lift.specs.Raising.{PutsUser}
use Rattle.install_lift.proofs.raising.put_to_row.Given as goal

abbrev pub invariant-loop-id : goal.invariant-loop-id
invariant-loop-id l = PutsUser (flag l.more) (clauses_at l.pool (take l.id-index l.ids)) l.number l.fn.table l.table
