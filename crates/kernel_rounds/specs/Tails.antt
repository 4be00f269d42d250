-- Rounds that go on after merging with any function, the tail. So one proof that rounds end serves
-- each choice of the parts that come after merging.
use Rattle.std.specs.Prelude.{◌≡◌, ℕ, zero, suc, ◌<◌, Bool, List, [], ◌⊎◌, ◌↔◌, length}
use Rattle.row_book.specs.{Sets.{NumSet}, Repository.{Repository, Coinst, clauses_of}}
use Rattle.row_book.specs.{Sound.{SoundRepository, TidyRepository}, Flattening.{flat}}
use Rattle.row_book.specs.{Merging.{image, quotient}, Thinning.{conflicting_pairs}, Rounds.{weigh}}
use Rattle.listed.specs.Lists.{In}
use Rattle.clause_pool.specs.Lists.{InOrder}

abbrev pub round_with : ℕ → Bool → (Repository → Repository) → Repository → Repository
round_with limit hold t R = t (quotient (flat limit hold R))

abbrev pub rounds_with : ℕ → Bool → (Repository → Repository) → Repository → ℕ → Repository
rounds_with limit hold t R zero = R
rounds_with limit hold t R (suc n) = rounds_with limit hold t (round_with limit hold t R) n

abbrev pub image_with : ℕ → Bool → (Repository → Repository) → Repository → ℕ → NumSet → NumSet
image_with limit hold t R zero S = S
image_with limit hold t R (suc n) S =
    image_with limit hold t (round_with limit hold t R) n (image (flat limit hold R) S)

-- how many pairs of packages conflict
unfoldable pub conflict_count : Repository → ℕ
conflict_count R = length (conflicting_pairs R)

-- the clauses stay, or they weigh less
abbrev pub Lighter : List (List ℕ) → List (List ℕ) → Type 0
Lighter xs ys = (xs ≡ ys) ⊎ (weigh xs < weigh ys)

-- What may come after merging. A tidy repository becomes a sound one, and keeps every set and its
-- packages. It has the same conflicts or fewer, and no clauses but old ones and empty ones. The
-- order of its clauses stays, and the clauses of each package weigh less if they are not the same.
pub record Tail (t : Repository → Repository) : Type 0 where
  pub sound : (R : Repository) → TidyRepository R → SoundRepository (t R)
  pub keeps : (R : Repository) → TidyRepository R → (S : NumSet) → (Coinst R S ↔ Coinst (t R) S)
  pub size : (R : Repository) → TidyRepository R → length (t R).clauses ≡ length R.clauses
  pub conflicts : (R : Repository) → TidyRepository R →
      ((t R).conflicts ≡ R.conflicts) ⊎ (conflict_count (t R) < conflict_count R)
  pub clauses : (R : Repository) → TidyRepository R →
      (p : ℕ) (c : List ℕ) → In c (clauses_of (t R) p) → In c (clauses_of R p) ⊎ (c ≡ [])
  pub order : (R : Repository) → TidyRepository R → ((p : ℕ) → InOrder (clauses_of R p)) →
      (p : ℕ) → InOrder (clauses_of (t R) p)
  pub weight : (R : Repository) → TidyRepository R →
      (p : ℕ) → Lighter (clauses_of (t R) p) (clauses_of R p)
