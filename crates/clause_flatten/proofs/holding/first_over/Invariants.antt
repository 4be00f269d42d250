use Rattle.std.proofs.Common.{◌≡◌, ℕ, ◌<◌, false, get_or}
use Rattle.clause_flatten.specs.{Ready.{table_of}, Substitution.{table_without}, TakingOut.{is_over}}
use Rattle.clause_flatten.proofs.holding.first_over.Given as goal

abbrev pub invariant-loop-user : goal.invariant-loop-user
invariant-loop-user l = (k : ℕ) → k < l.user-index → is_over (table_without l.gone (table_of l.pool l.rows)) l.limit (get_or l.users k 0) ≡ false
