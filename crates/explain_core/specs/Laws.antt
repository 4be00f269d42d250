-- The law of reach.
use Rattle.std.specs.Prelude.{ℕ, List, length}
use Rattle.row_book.specs.{Needs.{NeedsFit}, Repository.{Repository}, Sound.{SoundRepository}}
use Rattle.explain_core.specs.Reach.{IsReach, reach_of}

-- the test of reach is the least set
abbrev pub ReachIsLeast : Type 0
ReachIsLeast = (R : Repository) (goals : List (List ℕ)) → SoundRepository R →
    NeedsFit (length R.clauses) goals → IsReach R goals (reach_of R goals)
