use Rattle.std.proofs.Common.{◌≡◌, ◌||◌, ℕ, take}
use Rattle.listed.specs.Lists.{has}
use Rattle.clause_prune.specs.Filing.{tell_within}
use Rattle.clause_prune.proofs.filing.push_packages.Given as goal

abbrev pub invariant-loop-entry : goal.invariant-loop-entry
invariant-loop-entry l = (n : ℕ) → has l.found.items n ≡ (has l.fn.found.items n || tell_within l.pool (take l.entry-index l.list) l.clause n)
