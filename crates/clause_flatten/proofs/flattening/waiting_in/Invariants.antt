use Rattle.std.proofs.Common.{◌≤◌, ◌&&◌, ltb, length}
use Rattle.clause_pool.specs.Interned.{Interned}
use Rattle.clause_flatten.specs.{Ready.{table_of}, Substitution.{length_in}, TakingOut.{is_free}, Waiting.{Filed}}
use Rattle.clause_flatten.proofs.flattening.waiting_in.Given as goal

abbrev pub invariant-loop-number : goal.invariant-loop-number
invariant-loop-number l = record {
  room : length l.book.rows ≤ length l.waiting;
  filed : (pool : Interned) → Filed l.waiting (λ q. ltb q l.number && is_free l.book.conflicts q) (length_in (table_of pool l.rows));
}
