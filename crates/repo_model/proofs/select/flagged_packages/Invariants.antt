use Rattle.std.proofs.Common.{◌≡◌, ◌++◌, drop}
use Rattle.std.specs.List.{items_where_true}
use Rattle.repo_model.proofs.select.flagged_packages.Given as goal

abbrev pub invariant-loop-place : goal.invariant-loop-place
invariant-loop-place l = l.made ++ items_where_true (drop l.place l.flags) (drop l.place l.packages) ≡ items_where_true l.flags l.packages
