use Rattle.std.proofs.Common.{ℕ, Bool, take}
use Rattle.clause_pool.specs.Interned.{Interned}
use Rattle.clause_flatten.specs.{Ready.{table_of}, TakingOut.{counted_anew}, Waiting.{Filed}}
use Rattle.clause_flatten.proofs.taking_out.file_users.Given as goal

abbrev pub invariant-loop-user : goal.invariant-loop-user
invariant-loop-user l = (pool : Interned) (may : ℕ → Bool) (count : ℕ → ℕ) → Filed l.fn.waiting may count →
    Filed l.waiting may (counted_anew count (table_of pool l.rows) (take l.user-index l.users))
