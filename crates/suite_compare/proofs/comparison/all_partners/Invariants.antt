use Rattle.suite_compare.specs.Comparing.{IsTableTo}
use Rattle.suite_compare.proofs.comparison.all_partners.Given as goal

abbrev pub invariant-loop-kind_pair : goal.invariant-loop-kind_pair
invariant-loop-kind_pair l = IsTableTo l.kind_pair l.old l.table l.bad l.made.items
