-- The rows of a mix, which is a mask over all packages of two indexes, in the numbers of all
-- packages.
use Rattle.std.specs.Prelude.{◌≡◌, ℕ, Bool, true, false, List, length, map, None}
use Rattle.class_merge.specs.Masks.{group_clauses, group_conflicts, AreGrouped}
use Rattle.class_merge.specs.Classes.{class_in}
use Rattle.clause_pool.specs.Interned.{Interned, row_at, IsPool}
use Rattle.row_book.specs.{declared.book.Book.{Book}, Book.{repository_of}, Flags.{flag}}
use Rattle.row_book.specs.{Flattening.{flat, passes}, Merging.{class_of, quotient}}
use Rattle.row_book.specs.{Numbers.{numbers}, Parts.{part, place_in}}
use Rattle.row_book.specs.{Repository.{Repository, clauses_of}, Sound.{SoundRepository}}
use Rattle.suite_part.specs.{BaseRows.{AreBaseRows}, Bases.{row_of_part}, declared.base.Base.{Base}}

-- rows of all packages in their own numbers; those of packages of the mix are the rows over the
-- core of the part, without hold
pub record AreRowsOfMix (limit : ℕ) (W : Repository) (flags : List Bool)
    (F : Repository) : Type 0 where
  pub whole : SoundRepository W
  pub sound : SoundRepository F
  pub size : length flags ≡ length W.clauses
  pub count : length F.clauses ≡ length W.clauses
  pub conflicts : F.conflicts ≡ W.conflicts
  pub rows : (p : ℕ) → flag flags p ≡ true → clauses_of F p ≡ row_of_part limit flags W p

-- the groups of rows are what the first round merges of the mix
pub record IsMergedMix (limit : ℕ) (W : Repository) (flags : List Bool) (F : Repository)
    (least group_of : List ℕ) : Type 0 where
  pub clauses : map (group_clauses F least group_of) (numbers (length least) 0)
      ≡ (quotient (flat limit false (part flags W))).clauses
  pub conflicts : map (group_conflicts F flags least group_of) (numbers (length least) 0)
      ≡ (quotient (flat limit false (part flags W))).conflicts
  pub classes : (p : ℕ) → flag flags p ≡ true →
      class_in group_of p ≡ class_of (flat limit false (part flags W)) (place_in flags p)

abbrev pub MergedMix : Type 0
MergedMix =
    (limit : ℕ) (W : Repository) (flags : List Bool) (F : Repository) (least group_of : List ℕ) →
    AreRowsOfMix limit W flags F → AreGrouped F flags least group_of →
    IsMergedMix limit W flags F least group_of

-- the repository of rows in the pool of a base, with the conflicts of a book
abbrev pub repository_in : Base → Book → List ℕ → Repository
repository_in base book rows =
    record { clauses = map (row_at base.pool) rows; conflicts = book.conflicts }

-- rows in the pool of a base; those of packages of the mix are their rows over the core of the mix,
-- which passes no limit
pub record AreMixRows (from : Interned) (book : Book) (base : Base) (flags : List Bool)
    (rows : List ℕ) : Type 0 where
  pub is_pool : IsPool base.pool
  pub base_rows : AreBaseRows base.pool rows (length flags)
  pub are : AreRowsOfMix base.limit (repository_of from book) flags (repository_in base book rows)
  pub within : passes base.limit false (part flags (repository_of from book)) ≡ None
