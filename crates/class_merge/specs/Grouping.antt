-- for the bodies of this crate alone
-- What a grouping of packages by their rows and conflicts returns.
use Rattle.std.specs.Prelude.{◌≡◌, ℕ, ◌<◌, ◌≤◌, ◌⊎◌, List, [], ◌∷◌, ◌++◌, filter, length, map}
use Rattle.std.specs.Prelude.{slice_index_or}
use Rattle.clause_pool.specs.{Clauses.{apart_from, in_row_order, minimal_of}, Interned.{Interned}}
use Rattle.clause_pool.specs.Lists.{InOrder}
use Rattle.row_book.specs.declared.book.Book.{Book}
use Rattle.row_book.specs.{Book.{listed_for, repository_of, RowsTidy, Sound}, Flags.{flag}}
use Rattle.row_book.specs.{Parts.{number_in}, Repository.{Repository, clauses_of}}
use Rattle.row_book.specs.{Sound.{TidyRepository}, Uses.{row_id}}
use Rattle.listed.specs.Lists.{Ascending, In}
use Rattle.class_merge.specs.{Classes.{image_in}, Masks.{masked_repository, AreGrouped}}
use Rattle.class_merge.specs.declared.{grouping.Classes.{Classes}, masked.MaskedRows.{MaskedRows}}
use Rattle.class_merge.specs.declared.{merging.Families.{Families}}

-- the row of a package and its conflicts with packages of the mask; packages of the mask that agree
-- in these are alike
abbrev pub key_of : MaskedRows → ℕ → List ℕ
key_of masked p =
    row_id masked.rows.now p ∷ filter (flag masked.flags.now) (listed_for masked.conflicts.now p)

-- the groups of the packages of a mask, no more than packages, and a group for each package
pub record AreClasses (masked : MaskedRows) (classes : Classes) : Type 0 where
  pub grouped : AreGrouped
      (masked_repository masked) masked.flags.now classes.firsts.items classes.class_of.items
  pub size : length classes.class_of.items ≡ length masked.flags.now
  pub short : length classes.firsts.items ≤ length masked.flags.now

-- Either the list was among the old ones, and nothing is new; or it was not, and the list and the
-- number are appended.
pub record IsPlaceAmong (old new : List (List ℕ)) (first next : List ℕ) (n : ℕ) (list : List ℕ)
    (place : ℕ) : Type 0 where
  pub within : place < length new
  pub holds : slice_index_or new place [] ≡ list
  pub gains : (In list old × (new ≡ old) × (next ≡ first))
      ⊎ ((In list old → ⊥) × (new ≡ old ++ list ∷ []) × (next ≡ first ++ n ∷ []))

-- the images of the clauses of a class that do not hold it, in order
abbrev pub family_in : ℕ → List ℕ → ℕ → List (List ℕ) → List (List ℕ)
family_in count class_of k cs = in_row_order (apart_from k (map (image_in count class_of) cs))

abbrev pub group_family : Repository → List ℕ → List ℕ → ℕ → List (List ℕ)
group_family R least group_of k =
    family_in (length least) group_of k (clauses_of R (number_in least k))

-- families of clauses that can be interned
pub record AreFamilies (families : List (List (List ℕ))) : Type 0 where
  pub ascending : (family : List (List ℕ)) → In family families →
      (c : List ℕ) → In c family → Ascending c
  pub in_order : (family : List (List ℕ)) → In family families → InOrder family

-- a tidy repository, small enough for a book, with its clauses in no pool
pub record IsUnpooled (Q : Repository) (made : Families) : Type 0 where
  pub families : AreFamilies made.clauses.items
  pub clauses : map minimal_of made.clauses.items ≡ Q.clauses
  pub conflicts : made.conflicts.items ≡ Q.conflicts
  pub tidy : TidyRepository Q
  pub few : length Q.clauses < 4294967295

-- families that can be interned, few enough for a book, with conflicts for each
pub record FitsBook (made : Families) : Type 0 where
  pub families : AreFamilies made.clauses.items
  pub few : length made.clauses.items < 4294967295
  pub paired : length made.conflicts.items ≡ length made.clauses.items

-- a book of a repository, sound and with tidy rows
pub record IsTidyBook (pool : Interned) (book : Book) (Q : Repository) : Type 0 where
  pub is : repository_of pool book ≡ Q
  pub sound : Sound pool book
  pub tidy : RowsTidy pool book.rows
