-- The laws of the rounds and of the kernel.
use Rattle.std.specs.Prelude.{◌≡◌, ℕ, ◌<◌, ◌≤◌, ◌+◌, ◌∷◌, ◌↔◌, Bool, true, false, not, ◌&&◌, List}
use Rattle.std.specs.{Prelude.{[], length, filter, None}, List.{list_any}}
use Rattle.row_book.specs.{Sets.{NumSet, Is}, Repository.{Repository, Coinst, clauses_of}}
use Rattle.row_book.specs.Sound.{OfPackages, SoundRepository}
use Rattle.row_book.specs.Flattening.{core_of, flat, has_conflict, packages, passes}
use Rattle.row_book.specs.{Support.{row}, Merging.{class_of, quotient}, Pruning.{prune}}
use Rattle.row_book.specs.Thinning.{thin}
use Rattle.row_book.specs.Rounds.{round, rounds, enough_rounds, round_count, kernel, kernel_class}
use Rattle.row_book.specs.Rounds.{kernel_held, kernel_image, kernel_steps, limit_at, weigh, Settled}
use Rattle.listed.specs.Lists.{In, has}
use Rattle.clause_pool.specs.Lists.{Before, InOrder}
use Rattle.class_merge.specs.Laws.{plain_clauses}
use Rattle.kernel_rounds.specs.Tails.{Tail, conflict_count, round_with, rounds_with, image_with}

-- if each package that is in a clause is of the core, flattening only drops clauses
abbrev pub FlatPlain : Type 0
FlatPlain = (limit : ℕ) (hold : Bool) → (R : Repository) → SoundRepository R →
    ((p : ℕ) (c : List ℕ) (n : ℕ) → In c (clauses_of R p) → In n c →
    core_of limit hold R n ≡ true) →
    (p : ℕ) → p < length R.clauses → row R (core_of limit hold R) p ≡ plain_clauses R p

-- after n rounds, whatever comes after merging: a set of packages is co-installable exactly if its
-- image is, and the repository is sound
pub record RoundsKept (limit : ℕ) (hold : Bool) (t : Repository → Repository) (R : Repository)
    (n : ℕ) : Type 0 where
  pub keeps : (S : NumSet) → OfPackages R S →
      (Coinst R S ↔ Coinst (rounds_with limit hold t R n) (image_with limit hold t R n S))
  pub sound : SoundRepository (rounds_with limit hold t R n)

abbrev pub TailsKeep : Type 0
TailsKeep = (limit : ℕ) (hold : Bool) → (t : Repository → Repository) → Tail t →
    (R : Repository) → SoundRepository R → (n : ℕ) → RoundsKept limit hold t R n

-- they end: the number of packages gives a number of rounds that is enough
abbrev pub TailsEnd : Type 0
TailsEnd = (limit : ℕ) (hold : Bool) → (t : Repository → Repository) → Tail t →
    (R : Repository) → SoundRepository R →
    round_with limit hold t (rounds_with limit hold t R (enough_rounds (length R.clauses)))
    ≡ rounds_with limit hold t R (enough_rounds (length R.clauses))

-- a repository that a round leaves is left by each of its parts
pub record LeftByEach (limit : ℕ) (hold : Bool) (K : Repository) : Type 0 where
  pub flattening : flat limit hold K ≡ K
  pub merging : quotient K ≡ K
  pub pruning : prune K ≡ K
  pub thinning : thin K ≡ K

abbrev pub FixedParts : Type 0
FixedParts = (limit : ℕ) (hold : Bool) → (K : Repository) → SoundRepository K →
    round limit hold K ≡ K → LeftByEach limit hold K

-- a repository that a round leaves is settled
abbrev pub FixedIsSettled : Type 0
FixedIsSettled = (limit : ℕ) (hold : Bool) → (K : Repository) → SoundRepository K →
    round limit hold K ≡ K → Settled limit hold K

-- the kernel is what a round leaves, after as few rounds as can be
pub record IsKernel (limit : ℕ) (hold : Bool) (R : Repository) : Type 0 where
  pub fixed : round limit hold (kernel limit hold R) ≡ kernel limit hold R
  pub first : (n : ℕ) → round limit hold (rounds limit hold R n) ≡ rounds limit hold R n →
      round_count limit hold R ≤ n
  pub only : (n : ℕ) → round limit hold (rounds limit hold R n) ≡ rounds limit hold R n →
      rounds limit hold R n ≡ kernel limit hold R
  pub sound : SoundRepository (kernel limit hold R)
  pub settled : Settled limit hold (kernel limit hold R)

abbrev pub KernelIs : Type 0
KernelIs = (limit : ℕ) (hold : Bool) → (R : Repository) → SoundRepository R → IsKernel limit hold R

-- a set of packages is co-installable exactly if its image is in the kernel
abbrev pub KernelKeeps : Type 0
KernelKeeps = (limit : ℕ) (hold : Bool) → (R : Repository) → SoundRepository R → (S : NumSet) →
    OfPackages R S → (Coinst R S ↔ Coinst (kernel limit hold R) (kernel_image limit hold R S))

-- the image of a set has the classes of its packages, and no others
pub record HasImage (limit : ℕ) (hold : Bool) (R : Repository) (S : NumSet) (k : ℕ) : Type 0 where
  pub by : ℕ
  pub within : by < length R.clauses
  pub inside : Is S by
  pub class : kernel_class limit hold R by ≡ k

abbrev pub ImageIsOfClasses : Type 0
ImageIsOfClasses = (limit : ℕ) (hold : Bool) → (R : Repository) → SoundRepository R → (S : NumSet) →
    OfPackages R S → (k : ℕ) → (Is (kernel_image limit hold R S) k ↔ HasImage limit hold R S k)

-- The kernel is that of what a round leaves, and each package has in it the class of its class. No
-- round passes the limit exactly if the first does not and none after it.
pub record IsBehindRound (limit : ℕ) (hold : Bool) (R : Repository) : Type 0 where
  pub same : kernel limit hold (round limit hold R) ≡ kernel limit hold R
  pub classes : (p : ℕ) → p < length R.clauses → kernel_class limit hold (round limit hold R)
      (class_of (flat limit hold R) p) ≡ kernel_class limit hold R p
  pub within : (limit_at limit hold R ≡ None)
      ↔ ((passes limit hold R ≡ None) × (limit_at limit hold (round limit hold R) ≡ None))

abbrev pub KernelBehindRound : Type 0
KernelBehindRound = (limit : ℕ) (hold : Bool) → (R : Repository) → SoundRepository R →
    IsBehindRound limit hold R

-- The kernel of a kernel, at the same limit and hold, is itself with the same held packages. Each
-- package is its own class, and there is no step. It passes no limit if the first passed none.
pub record OwnKernel (limit : ℕ) (hold : Bool) (R : Repository) : Type 0 where
  pub same : kernel limit hold (kernel limit hold R) ≡ kernel limit hold R
  pub held : kernel_held limit hold (kernel limit hold R) ≡ kernel_held limit hold R
  pub classes : (p : ℕ) → kernel_class limit hold (kernel limit hold R) p ≡ p
  pub steps : kernel_steps limit hold (kernel limit hold R) ≡ []
  pub within : limit_at limit hold R ≡ None → limit_at limit hold (kernel limit hold R) ≡ None

abbrev pub KernelOfKernel : Type 0
KernelOfKernel = (limit : ℕ) (hold : Bool) → (R : Repository) → SoundRepository R →
    OwnKernel limit hold R

-- the sum, over all clauses, of the clause's length plus one
abbrev pub total_weight : List (List (List ℕ)) → ℕ
total_weight [] = 0
total_weight (row ∷ rows) = weigh row + total_weight rows

-- whether the package is in a clause
abbrev pub stands : Repository → ℕ → Bool
stands R q = list_any (λ p. list_any (λ c. has c q) (clauses_of R p)) (packages R)

-- how many packages without conflicts are in clauses
unfoldable pub standing_count : Repository → ℕ
standing_count R = length (filter (λ q. stands R q && not (has_conflict R q)) (packages R))

-- the clauses of each package are in order, each once, as in every book
abbrev pub RowsInOrder : Repository → Type 0
RowsInOrder R = (p : ℕ) → InOrder (clauses_of R p)

-- what goes down: the number of packages, of conflicts, of packages without conflicts that are in
-- clauses, and the weight of all clauses
abbrev pub measures : Repository → List ℕ
measures R =
    length R.clauses ∷ (conflict_count R ∷ (standing_count R ∷ (total_weight R.clauses ∷ [])))

-- A round leaves clauses in order. If they were in order before it, it changes nothing, or lowers
-- these numbers in lexicographic order.
pub record GoesDown (limit : ℕ) (hold : Bool) (R : Repository) : Type 0 where
  pub sorted : RowsInOrder (round limit hold R)
  pub lower : RowsInOrder R → (round limit hold R ≡ R → ⊥) →
      Before (measures (round limit hold R)) (measures R)

abbrev pub RoundsGoDown : Type 0
RoundsGoDown = (limit : ℕ) (hold : Bool) → (R : Repository) → SoundRepository R →
    GoesDown limit hold R

-- without hold a limit may refuse a kernel, but does not change it, and no package is held
pub record SameWithoutHold (limit other : ℕ) (R : Repository) : Type 0 where
  pub same : kernel limit false R ≡ kernel other false R
  pub classes : (p : ℕ) → kernel_class limit false R p ≡ kernel_class other false R p
  pub steps : kernel_steps limit false R ≡ kernel_steps other false R
  pub held : kernel_held limit false R ≡ []

abbrev pub LimitWithoutHold : Type 0
LimitWithoutHold = (limit other : ℕ) → (R : Repository) → SameWithoutHold limit other R

-- if no round without hold passes the limit, hold changes neither the kernel nor a class
pub record HoldUnused (limit : ℕ) (R : Repository) : Type 0 where
  pub same : kernel limit true R ≡ kernel limit false R
  pub classes : (p : ℕ) → kernel_class limit true R p ≡ kernel_class limit false R p
  pub within : limit_at limit true R ≡ None

abbrev pub HoldIsUnused : Type 0
HoldIsUnused = (limit : ℕ) (R : Repository) → SoundRepository R →
    limit_at limit false R ≡ None → HoldUnused limit R
