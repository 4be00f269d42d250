-- The laws of support and of rows, over any set V that is left.
use Rattle.std.specs.Prelude.{◌≡◌, ◌≢◌, ℕ, ◌<◌, true, false, List, length, ◌⊎◌, ◌↔◌, cond}
use Rattle.row_book.specs.Sets.{NumSet, Within, Is, HitsAll, plus, without, union}
use Rattle.row_book.specs.Repository.{Repository, Coinst, Healthy, Satisfied, clauses_of, against}
use Rattle.row_book.specs.{Support.{Support, IsRow}, Sound.{OfPackages, SoundClauses}}
use Rattle.row_book.specs.Flattening.{all_packages}
use Rattle.clause_pool.specs.Clauses.{minimal_of, apart_from}
use Rattle.clause_families.specs.Unions.{substituted}

-- what supports a package still does when it grows
abbrev pub SupportGrows : Type 0
SupportGrows = (R : Repository) (V : NumSet) (p : ℕ) (X Y : NumSet) →
    Within X Y → Support R V p X → Support R V p Y

-- a set within V supports p exactly if it hits each clause of the row of p over V
abbrev pub RowTells : Type 0
RowTells = (R : Repository) (V : NumSet) (p : ℕ) (rows : List (List ℕ)) →
    OfPackages R V → IsRow R V p rows →
    (X : NumSet) → Within X V → (Support R V p X ↔ HitsAll X rows)

-- X, and p if it is in V
abbrev pub with_user : NumSet → ℕ → NumSet → NumSet
with_user V p X = cond (V p) (plus X p) X

-- X supports p over V without q exactly if one of two things holds over V. Either X supports p, or
-- X with q supports p and X, with p if p is in V, supports q
abbrev pub OneStep : Type 0
OneStep = (R : Repository) (V : NumSet) (p q : ℕ) (X : NumSet) →
    p < length R.clauses → q < length R.clauses → V q ≡ true →
    (Support R (without V q) p X ↔
    (Support R V p X ⊎ (Support R V p (plus X q) × Support R V q (with_user V p X))))

-- substitution gives the rows when q is taken out of V, but for the row of q
abbrev pub Substitutes : Type 0
Substitutes = (R : Repository) (V : NumSet) (p q : ℕ) (A B : List (List ℕ)) →
    OfPackages R V → p < length R.clauses → V q ≡ true → p ≢ q →
    IsRow R V p A → IsRow R V q B → IsRow R (without V q) p (substituted p q A B)

-- the row of q stays as it is when q is taken out
abbrev pub OwnRowStays : Type 0
OwnRowStays = (R : Repository) (V : NumSet) (q : ℕ) (B : List (List ℕ)) →
    IsRow R V q B → IsRow R (without V q) q B

-- over all packages the row of p has the minimal clauses of p that do not hold p
abbrev pub FirstRows : Type 0
FirstRows = (R : Repository) (p : ℕ) → SoundClauses R →
    IsRow R (all_packages R) p (minimal_of (apart_from p (clauses_of R p)))

-- V has each package with a conflict
abbrev pub HoldsConflicts : Repository → NumSet → Type 0
HoldsConflicts R V = (m n : ℕ) → against R m n ≡ true → (V m ≡ true) × (V n ≡ true)

-- F has the rows over V as clauses, and the conflicts of R
pub record FlattenedBy (R : Repository) (V : NumSet) (F : Repository) : Type 0 where
  pub size : length F.clauses ≡ length R.clauses
  pub rows : (p : ℕ) → p < length R.clauses → IsRow R V p (clauses_of F p)
  pub conflicts : F.conflicts ≡ R.conflicts

-- a set is co-installable with the rows exactly if it is with the clauses
abbrev pub KeepsEverySet : Type 0
KeepsEverySet = (R : Repository) (V : NumSet) (F : Repository) →
    OfPackages R V → HoldsConflicts R V → FlattenedBy R V F →
    (S : NumSet) → (Coinst R S ↔ Coinst F S)

-- J has packages without conflicts, and each of their clauses is hit by I or J
pub record Served (R : Repository) (I J : NumSet) : Type 0 where
  pub packages : (n : ℕ) → Is J n → n < length R.clauses
  pub free : (n m : ℕ) → Is J n → (against R n m ≡ false) × (against R m n ≡ false)
  pub abundance : (n : ℕ) → Is J n → Satisfied R (λ m. Is I m ⊎ Is J m) n

-- J is the greatest such set
pub record Lifts (R : Repository) (I J : NumSet) : Type 0 where
  pub served : Served R I J
  pub greatest : (K : NumSet) → Served R I K → Within K J

-- a set that is healthy with the rows is healthy with the clauses once that J is added
abbrev pub LiftIsHealthy : Type 0
LiftIsHealthy = (R : Repository) (V : NumSet) (F : Repository) →
    OfPackages R V → HoldsConflicts R V → FlattenedBy R V F →
    (I J : NumSet) → Healthy F I → Lifts R I J → Healthy R (union I J)
