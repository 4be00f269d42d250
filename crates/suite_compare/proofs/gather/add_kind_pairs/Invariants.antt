use Rattle.std.{proofs.Common.{◌≡◌, ◌++◌, take}, specs.List.{flat_map}, specs.Prelude.{is_some}}
use Rattle.suite_compare.specs.Partners.{beside, is_open}
use Rattle.suite_compare.proofs.gather.add_kind_pairs.Given as goal

abbrev pub invariant-loop-kind_pair : goal.invariant-loop-kind_pair
invariant-loop-kind_pair l = record {
  told : l.found.told.items ≡ l.initial.found.told.items ++ flat_map (beside is_some l.old l.table l.first l.verdict) (take l.kind_pair-index l.kind_pairs);
  undecided : l.found.undecided.items ≡ l.initial.found.undecided.items ++ flat_map (beside is_open l.old l.table l.first l.verdict) (take l.kind_pair-index l.kind_pairs);
}
