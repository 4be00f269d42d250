use Rattle.std.proofs.Common.{◌≡◌, ◌++◌, map, take}
use Rattle.clause_families.specs.Unions.{clause_without, union_of}
use Rattle.clause_families.proofs.counting.add_unions_with.Given as goal

abbrev pub invariant-loop-other : goal.invariant-loop-other
invariant-loop-other l = l.unions.items ≡ l.fn.unions.items ++ map (union_of (clause_without l.spent l.clause)) (take l.other-index l.others)
