use Rattle.std.proofs.Common.{◌≡◌, ◌||◌, ℕ, take}
use Rattle.std.specs.List.{list_any}
use Rattle.listed.specs.Lists.{has}
use Rattle.clause_prune.specs.Filing.{entries_in, tell_within, under}
use Rattle.clause_prune.proofs.filing.push_each_within.Given as goal

abbrev pub invariant-loop-number : goal.invariant-loop-number
invariant-loop-number l = (n : ℕ) → has l.found.items n ≡ (has l.fn.found.items n || list_any (λ x. tell_within l.pool (under (entries_in l.lists) x) l.clause n) (take l.number-index l.clause))
