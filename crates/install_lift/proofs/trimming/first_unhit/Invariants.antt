use Rattle.std.proofs.Common.{◌≡◌, take, None}
use Rattle.std.specs.List.{find}
use Rattle.clause_pool.specs.Interned.{clauses_at}
use Rattle.row_book.specs.Flags.{flag}
use Rattle.install_lift.specs.Trimming.{is_unhit}
use Rattle.install_lift.proofs.trimming.first_unhit.Given as goal

abbrev pub invariant-loop-k : goal.invariant-loop-k
invariant-loop-k l = find (is_unhit (flag l.set)) (clauses_at l.pool (take l.k l.ids)) ≡ None
