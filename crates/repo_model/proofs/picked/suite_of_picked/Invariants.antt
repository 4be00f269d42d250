use Rattle.std.proofs.Common.{◌≤◌, length}
use Rattle.repo_model.specs.{Building.{IsBuilt}, Limits.{most_packages}}
use Rattle.repo_model.proofs.Picks.{IsPicked}
use Rattle.repo_model.proofs.picked.suite_of_picked.Given as goal

abbrev pub invariant-loop-place : goal.invariant-loop-place
invariant-loop-place l = record {
  read : IsPicked l.flags l.all l.place l.building.packages l.building.home.name;
  few : length l.building.packages ≤ most_packages;
  built : IsBuilt l.building;
}
