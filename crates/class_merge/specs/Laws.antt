-- The laws of merging.
use Rattle.std.specs.Prelude.{◌≡◌, ℕ, ◌<◌, true, List, length, ◌↔◌}
use Rattle.row_book.specs.{Sets.{NumSet}, Repository.{Repository, Coinst, Healthy, clauses_of}}
use Rattle.row_book.specs.Sound.{OfPackages, SoundRepository, TidyRepository}
use Rattle.row_book.specs.Merging.{are_alike, class_of, firsts, first_of, image, members, quotient}
use Rattle.clause_pool.specs.Clauses.{apart_from, minimal_of, in_row_order}

-- a set of packages is co-installable exactly if its image is in the merged repository
abbrev pub MergeKeeps : Type 0
MergeKeeps = (R : Repository) (S : NumSet) → SoundRepository R → OfPackages R S →
    (Coinst R S ↔ Coinst (quotient R) (image R S))

-- the packages of a healthy set of classes are healthy
abbrev pub MergeLifts : Type 0
MergeLifts = (R : Repository) (K : NumSet) → SoundRepository R → Healthy (quotient R) K →
    Healthy R (members R K)

-- the merged repository is tidy
abbrev pub MergeIsTidy : Type 0
MergeIsTidy = (R : Repository) → SoundRepository R → TidyRepository (quotient R)

-- the class of a package: it is one of the classes, and the package is like its least package
pub record HasClass (R : Repository) (p : ℕ) : Type 0 where
  pub within : class_of R p < length (firsts R)
  pub first : first_of R (class_of R p) < length R.clauses
  pub alike : are_alike R p (first_of R (class_of R p)) ≡ true

abbrev pub EachHasClass : Type 0
EachHasClass = (R : Repository) (p : ℕ) → p < length R.clauses → HasClass R p

-- the clauses of p that do not hold p, the minimal ones in order
abbrev pub plain_clauses : Repository → ℕ → List (List ℕ)
plain_clauses R p = in_row_order (minimal_of (apart_from p (clauses_of R p)))

-- if no two packages are alike, merging only drops clauses
pub record IsPlain (R : Repository) (p : ℕ) : Type 0 where
  pub class : class_of R p ≡ p
  pub clauses : clauses_of (quotient R) p ≡ plain_clauses R p

abbrev pub MergePlain : Type 0
MergePlain = (R : Repository) → SoundRepository R → length (firsts R) ≡ length R.clauses →
    (p : ℕ) → p < length R.clauses → IsPlain R p
