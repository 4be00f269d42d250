use Rattle.std.proofs.Common.{◌≡◌, ℕ, ◌<◌, true, get_or}
use Rattle.std.specs.List.{list_all}
use Rattle.conflict_reduce.specs.Others.{is_other_conflict}
use Rattle.conflict_reduce.proofs.facing.OtherConflicts.all_conflict.Given as goal

abbrev pub invariant-loop-number : goal.invariant-loop-number
invariant-loop-number l = (k : ℕ) → k < l.number-index → list_all (is_other_conflict l.self (get_or l.list k 0)) l.other ≡ true
