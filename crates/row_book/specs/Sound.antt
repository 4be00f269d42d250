-- What the laws on repositories ask of their data.
use Rattle.std.specs.Prelude.{◌≡◌, ℕ, ◌<◌, true, List, length}
use Rattle.row_book.specs.{Sets.{NumSet}, Repository.{Repository, clauses_of, against}}
use Rattle.row_book.specs.Book.{AreConflicts}
use Rattle.listed.specs.Lists.{In, Ascending, Inside}

-- V is a set of packages
abbrev pub OfPackages : Repository → NumSet → Type 0
OfPackages R V = (n : ℕ) → V n ≡ true → n < length R.clauses

-- each clause is ascending and only has packages
abbrev pub SoundClauses : Repository → Type 0
SoundClauses R = (p : ℕ) (c : List ℕ) → In c (clauses_of R p) →
    Ascending c × ((n : ℕ) → In n c → n < length R.clauses)

-- conflicts are between packages
abbrev pub BetweenPackages : Repository → Type 0
BetweenPackages R = (m n : ℕ) → against R m n ≡ true →
    (m < length R.clauses) × (n < length R.clauses)

-- A sound repository: sound clauses, and for each package a list of conflicts. The lists are
-- strictly ascending, go either way round, and do not have the package itself.
pub record SoundRepository (R : Repository) : Type 0 where
  pub clauses : SoundClauses R
  pub count : length R.conflicts ≡ length R.clauses
  pub conflicts : AreConflicts R.conflicts

-- a tidy one: no clause of a package holds the package, or is within another clause of it
pub record TidyRepository (R : Repository) : Type 0 where
  pub sound : SoundRepository R
  pub apart : (p : ℕ) (c : List ℕ) → In c (clauses_of R p) → In p c → ⊥
  pub minimal : (p : ℕ) (c d : List ℕ) → In c (clauses_of R p) →
      In d (clauses_of R p) → Inside c d → c ≡ d
