use Rattle.std.proofs.Common.{◌≡◌, ◌<◌, ℕ, false, get_or}
use Rattle.clause_families.specs.{Counting.{unites}, Unions.{clause_without}}
use Rattle.clause_families.proofs.counting.is_united_less.Given as goal

abbrev pub invariant-loop-number : goal.invariant-loop-number
invariant-loop-number l = (k : ℕ) → k < l.number-index →
    unites l.parts.first.clauses.items l.parts.second.clauses.items (clause_without (get_or l.clause k 0) l.clause) ≡ false
