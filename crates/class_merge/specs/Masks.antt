-- A mask chooses packages of a repository. These are grouped by their clauses and by their
-- conflicts with each other. They keep their numbers among all packages.
use Rattle.std.specs.Prelude.{◌≡◌, ℕ, ◌<◌, Bool, true, List, filter, length, map}
use Rattle.clause_pool.specs.{Compacting.{RowsOf}, Interned.{IsPool, row_at}, Lists.{InOrder}}
use Rattle.listed.specs.Lists.{Ascending, In}
use Rattle.row_book.specs.{Flags.{flag}, Merging.{class_of, quotient}, Numbers.{numbers}}
use Rattle.row_book.specs.Parts.{number_in, part, place_in}
use Rattle.row_book.specs.Repository.{Repository, clauses_of, conflicts_of}
use Rattle.row_book.specs.Sound.{SoundRepository}
use Rattle.class_merge.specs.Classes.{class_in, clauses_in, image_in}
use Rattle.class_merge.specs.declared.masked.MaskedRows.{MaskedRows}

-- a flag for each package, up if it is in the mask; the clauses of those in the mask are in order
-- and name no others
pub record IsMasked (R : Repository) (flags : List Bool) : Type 0 where
  pub sound : SoundRepository R
  pub size : length flags ≡ length R.clauses
  pub order : (p : ℕ) → flag flags p ≡ true → InOrder (clauses_of R p)
  pub closed : (p : ℕ) → flag flags p ≡ true → (c : List ℕ) → In c (clauses_of R p) →
      (n : ℕ) → In n c → flag flags n ≡ true

-- the conflicts of a package with packages of the mask
abbrev pub against_in_mask : Repository → List Bool → ℕ → List ℕ
against_in_mask R flags p = filter (flag flags) (conflicts_of R p)

-- two packages have the same clauses, and conflict with the same packages of the mask
pub record AlikeInMask (R : Repository) (flags : List Bool) (p q : ℕ) : Type 0 where
  pub clauses : clauses_of R p ≡ clauses_of R q
  pub conflicts : against_in_mask R flags p ≡ against_in_mask R flags q

-- The least package of each group, ascending, and for each package of the mask the place of the
-- least package that it is like. No lesser package of the mask is like one of these.
pub record AreGrouped (R : Repository) (flags : List Bool) (least group_of : List ℕ) : Type 0 where
  pub ascending : Ascending least
  pub there : (p : ℕ) → In p least → flag flags p ≡ true
  pub first : (p q : ℕ) → In p least → flag flags q ≡ true → q < p → AlikeInMask R flags q p → ⊥
  pub within : (p : ℕ) → flag flags p ≡ true → class_in group_of p < length least
  pub alike : (p : ℕ) → flag flags p ≡ true →
      AlikeInMask R flags p (number_in least (class_in group_of p))

-- the clauses and conflicts of a group, from those of its least package
abbrev pub group_clauses : Repository → List ℕ → List ℕ → ℕ → List (List ℕ)
group_clauses R least group_of k =
    clauses_in (length least) group_of k (clauses_of R (number_in least k))

abbrev pub group_conflicts : Repository → List Bool → List ℕ → List ℕ → ℕ → List ℕ
group_conflicts R flags least group_of k =
    image_in (length least) group_of (against_in_mask R flags (number_in least k))

-- the class of each package of the mask is that of its place in the part
abbrev pub AreClassesOfPart : Repository → List Bool → List ℕ → Type 0
AreClassesOfPart R flags group_of = (p : ℕ) → flag flags p ≡ true →
    class_in group_of p ≡ class_of (part flags R) (place_in flags p)

-- what is made of the groups is the quotient of the part, and their places are the classes of its
-- packages
pub record IsQuotientOfPart (R : Repository) (flags : List Bool)
    (least group_of : List ℕ) : Type 0 where
  pub clauses : map (group_clauses R least group_of) (numbers (length least) 0)
      ≡ (quotient (part flags R)).clauses
  pub conflicts : map (group_conflicts R flags least group_of) (numbers (length least) 0)
      ≡ (quotient (part flags R)).conflicts
  pub classes : AreClassesOfPart R flags group_of

abbrev pub QuotientOfPart : Type 0
QuotientOfPart = (R : Repository) (flags : List Bool) (least group_of : List ℕ) → IsMasked R flags →
    AreGrouped R flags least group_of →
    IsQuotientOfPart R flags least group_of

-- the repository of all packages, in the mask or not
abbrev pub masked_repository : MaskedRows → Repository
masked_repository masked = record {
  clauses = map (row_at masked.pool.now) masked.rows.now;
  conflicts = masked.conflicts.now;
}

-- rows of a pool, few enough to be numbered, with a mask over their repository
pub record IsMaskOfRows (masked : MaskedRows) : Type 0 where
  pub is_pool : IsPool masked.pool.now
  pub of_pool : RowsOf masked.pool.now masked.rows.now
  pub few : length masked.rows.now < 4294967295
  pub mask : IsMasked (masked_repository masked) masked.flags.now
