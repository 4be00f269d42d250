use Rattle.std.proofs.Common.{◌≡◌, filter, not, take}
use Rattle.clause_families.specs.Counting.{is_apart}
use Rattle.clause_families.proofs.splitting.clauses_near.Given as goal

abbrev pub invariant-loop-clause : goal.invariant-loop-clause
invariant-loop-clause l = l.near.items ≡ filter (λ clause. not (is_apart l.numbers clause)) (take l.clause-index l.family)
