use Rattle.std.proofs.Common.{◌≡◌, ℕ, take, true}
use Rattle.clause_pool.specs.Interned.{clause_at}
use Rattle.listed.specs.Lists.{In}
use Rattle.suite_compare.specs.Choices.{has_first_member}
use Rattle.suite_compare.proofs.choose.has_firsts.Given as goal

abbrev pub invariant-loop-clause : goal.invariant-loop-clause
invariant-loop-clause l = (id : ℕ) → In id (take l.clause-index l.row) → has_first_member l.chosen.1 (clause_at l.pool id) ≡ true
