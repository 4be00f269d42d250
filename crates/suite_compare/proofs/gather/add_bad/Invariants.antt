use Rattle.std.{proofs.Common.{◌≡◌, ◌++◌, take}, specs.List.{flat_map}, specs.Prelude.{is_some}}
use Rattle.suite_compare.specs.Partners.{beside_all, is_open}
use Rattle.suite_compare.proofs.gather.add_bad.Given as goal

abbrev pub invariant-loop-entry : goal.invariant-loop-entry
invariant-loop-entry l = record {
  told : l.found.told.items ≡ l.initial.found.told.items ++ flat_map (beside_all is_some l.old l.table l.first) (take l.entry-index l.bad);
  undecided : l.found.undecided.items ≡ l.initial.found.undecided.items ++ flat_map (beside_all is_open l.old l.table l.first) (take l.entry-index l.bad);
}
