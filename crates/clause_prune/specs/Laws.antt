-- The laws of pruning. The first are of one step, in the repository that the steps before it left.
-- The others are of all steps together.
use Rattle.std.specs.Prelude.{◌≡◌, ℕ, true, List, [], length, ◌⊎◌, ◌↔◌}
use Rattle.row_book.specs.{Sets.{NumSet}, Repository.{Repository, Coinst, Healthy, clauses_of}}
use Rattle.row_book.specs.Sound.{TidyRepository}
use Rattle.row_book.specs.Pruning.{is_dead, with_empty_clause, without_clause, is_forced, is_idle}
use Rattle.row_book.specs.Pruning.{lift_idle, prune, idle_steps, lift_all}
use Rattle.listed.specs.Lists.{In}

-- if a dead package gets the empty clause and no other, the healthy sets stay the same
abbrev pub DeadKeeps : Type 0
DeadKeeps = (R : Repository) (p : ℕ) (I : NumSet) → is_dead R p ≡ true →
    (Healthy R I ↔ Healthy (with_empty_clause R p) I)

-- if a forced clause is dropped, the healthy sets stay the same
abbrev pub ForcedKeeps : Type 0
ForcedKeeps = (R : Repository) (p : ℕ) (d : List ℕ) (I : NumSet) → TidyRepository R →
    is_forced R p d ≡ true →
    (Healthy R I ↔ Healthy (without_clause R p d) I)

-- A set that is healthy without an idle clause is lifted to one that is healthy with it. To lift
-- it, x is added if p is in the set and no member of d is.
abbrev pub IdleLifts : Type 0
IdleLifts = (R : Repository) (p : ℕ) (d : List ℕ) (x : ℕ) (I : NumSet) → TidyRepository R →
    In d (clauses_of R p) → is_idle R p d x ≡ true →
    Healthy (without_clause R p d) I → Healthy R (lift_idle I p d x)

-- so if an idle clause is dropped, the same sets stay co-installable
abbrev pub IdleKeeps : Type 0
IdleKeeps = (R : Repository) (p : ℕ) (d : List ℕ) (x : ℕ) (S : NumSet) → TidyRepository R →
    In d (clauses_of R p) → is_idle R p d x ≡ true →
    (Coinst R S ↔ Coinst (without_clause R p d) S)

-- a set is co-installable before pruning exactly if it is so after it
abbrev pub PruneKeeps : Type 0
PruneKeeps = (R : Repository) (S : NumSet) → TidyRepository R → (Coinst R S ↔ Coinst (prune R) S)

-- a healthy set of the pruned repository, taken back through the idle steps, is healthy in R
abbrev pub PruneLifts : Type 0
PruneLifts = (R : Repository) (I : NumSet) → TidyRepository R → Healthy (prune R) I →
    Healthy R (lift_all I (idle_steps R))

-- F is tidy, and has as many packages as R and the same conflicts. Each clause of a package in F is
-- empty, or the package has it in R.
pub record PrunedFrom (R F : Repository) : Type 0 where
  pub tidy : TidyRepository F
  pub size : length F.clauses ≡ length R.clauses
  pub conflicts : F.conflicts ≡ R.conflicts
  pub clauses : (p : ℕ) (c : List ℕ) → In c (clauses_of F p) → In c (clauses_of R p) ⊎ (c ≡ [])

abbrev pub PruneIsTidy : Type 0
PruneIsTidy = (R : Repository) → TidyRepository R → PrunedFrom R (prune R)
