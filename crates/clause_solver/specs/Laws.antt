-- The law of verdicts.
use Rattle.std.specs.Prelude.{ℕ, List, length, map}
use Rattle.row_book.specs.{Sets.{NumSet}, Repository.{Repository}}
use Rattle.search_terms.specs.{Closure.{InRange}, Form.{repository_form}, Local.{ReachStandsIn}}
use Rattle.clause_solver.specs.{Verdicts.{IsSearchVerdict}, declared.outcomes.Verdict.{Verdict}}

-- A verdict, a spent budget included, depends on nothing but what the goals reach. The other
-- repository must name no classes but its own, as for every search: so it has a tree.
abbrev pub VerdictIsLocal : Type 0
VerdictIsLocal =
    (R : Repository) (goals : List (List ℕ)) (U : NumSet) (there : ℕ → ℕ) (other : Repository) →
    ReachStandsIn R goals U there other →
    InRange (length other.clauses) (repository_form other) →
    (budget : ℕ) (verdict : Verdict) → IsSearchVerdict R goals budget verdict →
    IsSearchVerdict other (map (map there) goals) budget verdict
