-- A healthy set of a kernel taken back through the steps by which the kernel was made, from the
-- last step to the first.
use Rattle.std.specs.Prelude.{◌≡◌, ℕ, not, ◌&&◌, Bool, eqb, ltb, List, [], ◌∷◌, length}
use Rattle.std.specs.{Prelude.{slice_index_or}, List.{list_all, list_any}}
use Rattle.row_book.specs.{Sets.{NumSet, union}, Repository.{Repository, clauses_of, conflicts_of}}
use Rattle.row_book.specs.{Numbers.{subsets}, Pruning.{lift_idle}}
use Rattle.row_book.specs.Rounds.{RoundStep, FlatStep, MergeStep, IdleStep}
use Rattle.listed.specs.Lists.{has}
use Rattle.clause_flatten.specs.Laws.{Lifts}
use Rattle.install_lift.specs.Raising.{is_served}

-- the packages whose classes are in the set
abbrev pub members_by : List ℕ → NumSet → NumSet
members_by class_of K p = ltb p (length class_of) && K (slice_index_or class_of p 0)

-- The set I of what came after the step, taken back through it, is T. Through flattening the
-- greatest set of packages without conflicts that are served is added. Through merging T has the
-- members of the classes. Through an idle clause its member is added if it is wanted.
abbrev pub IsLiftThrough : RoundStep → NumSet → NumSet → Type 0
IsLiftThrough (FlatStep before) I T = (J : NumSet) × Lifts before I J × (T ≡ union I J)
IsLiftThrough (MergeStep class_of) I T = T ≡ members_by class_of I
IsLiftThrough (IdleStep step) I T = T ≡ lift_idle I step.«package» step.clause step.added

abbrev pub IsLift : List RoundStep → NumSet → NumSet → Type 0
IsLift [] I T = T ≡ I
IsLift (s ∷ ss) I T = (K : NumSet) × IsLift ss I K × IsLiftThrough s K T

-- the package conflicts with none, and none with it
abbrev pub is_free : Repository → ℕ → Bool
is_free R p = eqb (length (conflicts_of R p)) 0 && not (list_any (λ ms. has ms p) R.conflicts)

-- the packages of the list have no conflicts, and each clause of each of them is hit by I and the
-- list together
abbrev pub are_served : Repository → NumSet → List ℕ → Bool
are_served R I J = list_all (λ p. is_free R p && is_served I (has J) (clauses_of R p)) J

-- the greatest set of packages without conflicts that are served: all that are in some such set
unfoldable pub supported : Repository → NumSet → NumSet
supported R I p = list_any (λ J. has J p && are_served R I J) (subsets (length R.clauses))

-- the set that is taken back through a step
abbrev pub lift_through : RoundStep → NumSet → NumSet
lift_through (FlatStep before) I = union I (supported before I)
lift_through (MergeStep class_of) I = members_by class_of I
lift_through (IdleStep step) I = lift_idle I step.«package» step.clause step.added

-- the set that is taken back through all steps, from the last to the first
abbrev pub lift_of : List RoundStep → NumSet → NumSet
lift_of [] I = I
lift_of (s ∷ ss) I = lift_through s (lift_of ss I)
