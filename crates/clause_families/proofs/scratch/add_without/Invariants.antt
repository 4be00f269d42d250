use Rattle.std.proofs.Common.{◌≡◌, ◌++◌, take}
use Rattle.clause_families.specs.Unions.{clause_without}
use Rattle.clause_families.proofs.scratch.add_without.Given as goal

abbrev pub invariant-loop-literal : goal.invariant-loop-literal
invariant-loop-literal l = l.literals.items ≡ l.fn.literals.items ++ clause_without l.spent (take l.literal-index l.clause)
