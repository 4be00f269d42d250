use Rattle.std.proofs.Common.{◌≡◌, take}
use Rattle.suite_compare.specs.Bearers.{bearers_of}
use Rattle.suite_compare.proofs.bearers.bearers_of.Given as goal

abbrev pub invariant-loop-name : goal.invariant-loop-name
invariant-loop-name l = l.lists.items ≡ bearers_of l.suite.packages (take l.name-index l.names)
