use Rattle.std.proofs.Common.{◌≡◌, filter, not, take}
use Rattle.clause_families.specs.Counting.{is_apart}
use Rattle.clause_families.proofs.splitting.clauses_apart.Given as goal

abbrev pub invariant-loop-clause : goal.invariant-loop-clause
invariant-loop-clause l = l.apart.items ≡ filter (is_apart l.numbers) (take l.clause-index l.family)
