-- The first fault of a set of packages that is not healthy. It is the first clause that the set
-- does not hit, by the package's number and by the clause's place in the package's row. If the set
-- hits them all, it is its first conflict.
use Rattle.std.specs.Prelude.{◌≡◌, ℕ, ◌<◌, ◌≤◌, true, List, [], ◌⊎◌, length, slice_index_or}
use Rattle.row_book.specs.{Sets.{NumSet, Is, Hit}, Repository.{Repository, Satisfied, clauses_of}}
use Rattle.row_book.specs.{Book.{listed_for}, declared.health.Unhealthy.{Unhealthy}}
use Rattle.row_book.specs.declared.health.Unhealthy.TheVariants.{Unhit, Clash}
use Rattle.listed.specs.Lists.{has}

-- the set hits each clause of each of its packages
abbrev pub AllSatisfied : Repository → NumSet → Type 0
AllSatisfied R I = (p : ℕ) → Is I p → Satisfied R (Is I) p

-- the set does not hit the clause at the place, and hits those before it
pub record IsFirstUnhit (clauses : List (List ℕ)) (I : NumSet) (k : ℕ) : Type 0 where
  pub within : k < length clauses
  pub unhit : Hit (Is I) (slice_index_or clauses k []) → ⊥
  pub before : (j : ℕ) → j < k → Hit (Is I) (slice_index_or clauses j [])

-- two packages of the set conflict, the lesser number first
pub record IsClash (conflicts : List (List ℕ)) (I : NumSet) (m n : ℕ) : Type 0 where
  pub ordered : m < n
  pub first : Is I m
  pub second : Is I n
  pub conflict : has (listed_for conflicts m) n ≡ true

abbrev pub HasNoClash : List (List ℕ) → NumSet → Type 0
HasNoClash conflicts I = (m n : ℕ) → IsClash conflicts I m n → ⊥

-- two packages of the set conflict, and no lesser pair of them, by its first and then by its second
-- number, does
pub record IsFirstClash (conflicts : List (List ℕ)) (I : NumSet) (m n : ℕ) : Type 0 where
  pub clash : IsClash conflicts I m n
  pub least : (a b : ℕ) → IsClash conflicts I a b → (m < a) ⊎ ((m ≡ a) × (n ≤ b))

-- The package is chosen, and its clause at the place is the first that the set does not hit. The
-- set hits each clause of each lesser chosen package.
pub record UnhitFirst (R : Repository) (I : NumSet) (p k : ℕ) : Type 0 where
  pub chosen : Is I p
  pub clause : IsFirstUnhit (clauses_of R p) I k
  pub lesser : (q : ℕ) → q < p → Is I q → Satisfied R (Is I) q

-- the set hits each clause of each chosen package, and the two are its first conflict
pub record ClashFirst (R : Repository) (I : NumSet) (m n : ℕ) : Type 0 where
  pub satisfied : AllSatisfied R I
  pub clash : IsFirstClash R.conflicts I m n

-- by cases on the fault
abbrev pub IsFirstFault : Repository → NumSet → Unhealthy → Type 0
IsFirstFault R I (Unhit p k) = UnhitFirst R I p k
IsFirstFault R I (Clash m n) = ClashFirst R I m n
