use Rattle.std.proofs.Common.{ℕ, take}
use Rattle.listed.specs.Lists.{In}
use Rattle.clause_families.specs.Counting.{HasNumbers}
use Rattle.clause_families.proofs.splitting.add_numbers.Given as goal

abbrev pub invariant-loop-clause : goal.invariant-loop-clause
invariant-loop-clause l = record {
  all : HasNumbers (take l.clause-index l.family) l.numbers.items;
  stay : (n : ℕ) → In n l.fn.numbers.items → In n l.numbers.items;
}
