use Rattle.std.proofs.Common.{◌≡◌, ◌++◌, drop}
use Rattle.std.specs.List.{items_where_true}
use Rattle.migrate_plan.proofs.parting.flags_in.Given as goal

abbrev pub invariant-loop-place : goal.invariant-loop-place
invariant-loop-place l = l.flags.items ++ items_where_true (drop l.place l.added) (drop l.place l.kept) ≡ l.left ++ items_where_true l.added l.kept
