-- The laws of the computed rows, of elimination and of the flattened repository.
use Rattle.std.specs.Prelude.{◌≡◌, ◌≢◌, ℕ, zero, suc, ◌<◌, ◌≤◌, Bool, true, List, length, ◌⊎◌, ◌↔◌}
use Rattle.std.specs.Prelude.{false, Option, Some, None}
use Rattle.row_book.specs.{Sets.{NumSet, without}, Repository.{Repository, Coinst, clauses_of}}
use Rattle.row_book.specs.{Support.{IsRow, row}, Sound.{OfPackages, SoundClauses, BetweenPackages}}
use Rattle.row_book.specs.Flattening.{all_packages, at_last, has_conflict, row_length, next_gone}
use Rattle.row_book.specs.Flattening.{remaining_after, core_of, is_held, rows_over, flat, passes}
use Rattle.row_book.specs.Flattening.{Remaining}
use Rattle.listed.specs.Lists.{In}
use Rattle.clause_pool.specs.{Lists.{InOrder}, Clauses.{in_row_order}}
use Rattle.clause_families.specs.Unions.{substituted}
use Rattle.clause_flatten.specs.Substitution.{table_without, stage_after, passes_by_stages}

-- the computed row is the row, in order
abbrev pub RowComputes : Type 0
RowComputes = (R : Repository) (V : NumSet) (p : ℕ) → OfPackages R V →
    IsRow R V p (row R V p) × InOrder (row R V p)

-- no other list in order is the row
abbrev pub RowIsOne : Type 0
RowIsOne = (R : Repository) (V : NumSet) (p : ℕ) (rows : List (List ℕ)) →
    OfPackages R V → IsRow R V p rows → InOrder rows → rows ≡ row R V p

-- of the packages that are left, without conflicts and not held, the one whose row has the fewest
-- clauses, and of these the one of least number
pub record LeastToGo (R : Repository) (s : Remaining) (q : ℕ) : Type 0 where
  pub left : s.left q ≡ true
  pub free : has_conflict R q ≡ false
  pub unheld : s.held q ≡ false
  pub least : (r : ℕ) → s.left r ≡ true → has_conflict R r ≡ false → s.held r ≡ false →
      (row_length R s.left q < row_length R s.left r)
      ⊎ ((row_length R s.left q ≡ row_length R s.left r) × (q ≤ r))

-- that one is taken out next, and none is if each package that is left has a conflict or is held
pub record TakesTheLeast (R : Repository) (s : Remaining) : Type 0 where
  pub some : (q : ℕ) → (next_gone R s ≡ Some q) ↔ LeastToGo R s q
  pub none : (next_gone R s ≡ None)
      ↔ ((q : ℕ) → s.left q ≡ true → (has_conflict R q ≡ true) ⊎ (s.held q ≡ true))

abbrev pub NextIsLeast : Type 0
NextIsLeast = (R : Repository) (s : Remaining) → OfPackages R s.left → TakesTheLeast R s

-- flattening keeps every set
abbrev pub FlatKeeps : Type 0
FlatKeeps = (limit : ℕ) (hold : Bool) (R : Repository) → BetweenPackages R →
    (S : NumSet) → (Coinst R S ↔ Coinst (flat limit hold R) S)

-- the core has the packages with a conflict and those that are held, and no others
abbrev pub CoreStays : Type 0
CoreStays = (limit : ℕ) (hold : Bool) (R : Repository) (q : ℕ) →
    (core_of limit hold R q ≡ true)
    ↔ ((q < length R.clauses) × ((has_conflict R q ≡ true) ⊎ (is_held limit hold R q ≡ true)))

-- a held package has no conflict, and some clause names it
abbrev pub HeldIsUsed : Type 0
HeldIsUsed = (limit : ℕ) (hold : Bool) (R : Repository) (q : ℕ) → SoundClauses R →
    passes limit hold R ≡ None → is_held limit hold R q ≡ true →
    (has_conflict R q ≡ false) × ((p : ℕ) × (c : List ℕ) × In c (clauses_of R p) × In q c)

-- with hold no step makes a row pass the limit
abbrev pub HoldStaysWithin : Type 0
HoldStaysWithin = (limit : ℕ) (R : Repository) → passes limit true R ≡ None →
    (i p : ℕ) → p < length R.clauses → row_length R (remaining_after limit true R i).left p ≤ limit

-- elimination without hold and without a limit: the packages that are left after each number of
-- steps
abbrev pub less_one : NumSet → Option ℕ → NumSet
less_one V None = V
less_one V (Some q) = without V q

abbrev pub none_held : NumSet → Remaining
none_held V = record { left = V; held = λ n. false }

unfoldable pub left_after : Repository → ℕ → NumSet
left_after R zero = all_packages R
left_after R (suc i) = less_one (left_after R i) (next_gone R (none_held (left_after R i)))

-- without hold no package is held, at any limit
abbrev pub WithoutHold : Type 0
WithoutHold = (limit : ℕ) (R : Repository) (i : ℕ) →
    remaining_after limit false R i ≡ none_held (left_after R i)

-- once no package can be taken out any more all stays
abbrev pub CoreIsReached : Type 0
CoreIsReached = (limit : ℕ) (hold : Bool) (R : Repository) (i : ℕ) →
    next_gone R (remaining_after limit hold R i) ≡ None → i ≤ length R.clauses →
    at_last limit hold R ≡ remaining_after limit hold R i

-- substitution gives the next row, in order
abbrev pub OneRow : Type 0
OneRow = (R : Repository) (V : NumSet) (p q : ℕ) →
    OfPackages R V → p < length R.clauses → V q ≡ true → p ≢ q →
    in_row_order (substituted p q (row R V p) (row R V q)) ≡ row R (without V q) p

-- substitution gives the next table of rows
abbrev pub TableStep : Type 0
TableStep = (R : Repository) (V : NumSet) (q : ℕ) → OfPackages R V → V q ≡ true →
    table_without q (rows_over R V) ≡ rows_over R (without V q)

-- an elimination that only looks at its table has what is left, what is held, and the rows, at each
-- stage
abbrev pub StagesRun : Type 0
StagesRun = (limit : ℕ) (hold : Bool) (R : Repository) → SoundClauses R → (i : ℕ) →
    stage_after limit hold R i ≡ record {
      remaining = remaining_after limit hold R i;
      table = rows_over R (remaining_after limit hold R i).left;
    }

-- the last table has the clauses of the flattened repository
abbrev pub FlatByStages : Type 0
FlatByStages = (limit : ℕ) (hold : Bool) (R : Repository) → SoundClauses R →
    flat limit hold R ≡ record {
      clauses = (stage_after limit hold R (length R.clauses)).table;
      conflicts = R.conflicts;
    }

-- the limit is passed at the same stage and by the same row as in the tables
abbrev pub PassesByStages : Type 0
PassesByStages = (limit : ℕ) (hold : Bool) (R : Repository) → SoundClauses R →
    passes limit hold R ≡ passes_by_stages limit hold R

-- a row stays as it is if none of its clauses holds the package that is taken out
abbrev pub UntouchedStays : Type 0
UntouchedStays = (R : Repository) (V : NumSet) (p q : ℕ) (A B : List (List ℕ)) →
    IsRow R V p A → InOrder A → ((T : List ℕ) → In T A → In q T → ⊥) →
    in_row_order (substituted p q A B) ≡ A
