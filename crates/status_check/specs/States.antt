-- The state of a set of packages as a function.
use Rattle.std.specs.Prelude.{◌≡◌, ◌↔◌, ℕ, Bool, not, ◌&&◌, find, Option, Some, None}
use Rattle.std.specs.List.{list_all, list_any}
use Rattle.row_book.specs.{Flattening.{packages}, Repository.{Repository, clauses_of}}
use Rattle.row_book.specs.{Sets.{NumSet}, Sound.{OfPackages, SoundRepository}}
use Rattle.row_book.specs.Thinning.{conflicting_pairs}
use Rattle.status_check.specs.{Report.{IsStateOf}, declared.report.OwnState.{OwnState}}
use Rattle.status_check.specs.declared.report.OwnState.TheVariants.{Healthy, Unhit, Clash}

-- the package is in the set, and has a clause that the set does not hit
abbrev pub is_unserved : Repository → NumSet → ℕ → Bool
is_unserved R I n = I n && not (list_all (list_any I) (clauses_of R n))

-- both are in the set
abbrev pub are_both : NumSet → ℕ × ℕ → Bool
are_both I pair = I pair.0 && I pair.1

abbrev pub by_clash : Option (ℕ × ℕ) → OwnState
by_clash None = Healthy
by_clash (Some pair) = Clash pair.0 pair.1

abbrev pub by_unserved : Repository → NumSet → Option ℕ → OwnState
by_unserved R I (Some n) = Unhit n
by_unserved R I None = by_clash (find (are_both I) (conflicting_pairs R))

-- The state of a set: its least package with a clause that it does not hit. If there is none, its
-- first two packages that conflict. If there are none either, it is healthy.
unfoldable pub set_state : Repository → NumSet → OwnState
set_state R I = by_unserved R I (find (is_unserved R I) (packages R))

-- a set has this state and no other
abbrev pub StatesAreOne : Type 0
StatesAreOne = (R : Repository) (I : NumSet) (state : OwnState) → SoundRepository R →
    OfPackages R I → (IsStateOf R I state ↔ (state ≡ set_state R I))
