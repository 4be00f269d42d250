-- The small book of packages of a mix that have changed: a part of the whole in which rivals have
-- no clauses.
use Rattle.std.specs.Prelude.{◌≡◌, ℕ, ◌≤◌, Bool, true, false, List, [], ◌∷◌, ◌++◌, None, filter}
use Rattle.std.specs.{Prelude.{length}, List.{list_any}}
use Rattle.clause_pool.specs.Interned.{Interned, row_at}
use Rattle.listed.specs.Lists.{In}
use Rattle.row_book.specs.{Flags.{flag}, Flattening.{core_of, passes, remaining_after, row_length}}
use Rattle.row_book.specs.Repository.{Repository, clauses_of, conflicts_of}
use Rattle.row_book.specs.{Sound.{SoundRepository}, Support.{row}}
use Rattle.row_book.specs.{Book.{listed_for, repository_of, Sound}, declared.book.Book.{Book}}
use Rattle.row_book.specs.{Uses.{row_id}, Parts.{clauses_in, numbers_up, part, place_in, row_in}}
use Rattle.suite_part.specs.{Bases.{row_of_part, AreChanged, IsBase}, declared.base.Base.{Base}}
use Rattle.suite_part.specs.declared.small.SmallBook.{SmallBook}

-- Packages of a mix that are needed, with all that they need there. For each that has conflicts
-- there, there is at least one that it conflicts with.
pub record HaveRivals (W : Repository) (flags needed apart : List Bool) : Type 0 where
  pub whole : SoundRepository W
  pub size : length flags ≡ length W.clauses
  pub count : length apart ≡ length W.clauses
  pub mix : (n : ℕ) → flag apart n ≡ true → flag flags n ≡ true
  pub own : (n : ℕ) → flag needed n ≡ true → flag apart n ≡ true
  pub closed : (p : ℕ) → flag needed p ≡ true → (c : List ℕ) → In c (clauses_of W p) →
      (n : ℕ) → In n c → flag flags n ≡ true → flag needed n ≡ true
  pub rivals : (p m : ℕ) → flag needed p ≡ true → In m (conflicts_of W p) → flag flags m ≡ true →
      list_any (flag apart) (conflicts_of W p) ≡ true

-- the book of such packages, in which rivals have no clauses
pub record IsSmall (W : Repository) (needed apart : List Bool) (S : Repository) : Type 0 where
  pub sound : SoundRepository S
  pub count : length S.clauses ≡ length (part apart W).clauses
  pub conflicts : S.conflicts ≡ (part apart W).conflicts
  pub rows : (x : ℕ) → flag needed x ≡ true →
      clauses_of S (place_in apart x) ≡ row_in apart (clauses_of W x)
  pub none : (x : ℕ) → flag apart x ≡ true → flag needed x ≡ false →
      clauses_of S (place_in apart x) ≡ []

-- The rows of needed packages in the small book, in the numbers of all packages, are those of the
-- mix. The small book is within the limit if the mix is. If it is, so are their rows in the mix.
pub record TellsOfMix (limit : ℕ) (W : Repository) (flags needed apart : List Bool)
    (S : Repository) : Type 0 where
  pub rows : (x : ℕ) → flag needed x ≡ true → clauses_in (numbers_up apart)
      (row S (core_of limit false S) (place_in apart x)) ≡ row_of_part limit flags W x
  pub passes_not : passes limit false (part flags W) ≡ None → passes limit false S ≡ None
  pub within : passes limit false S ≡ None → (x : ℕ) → flag needed x ≡ true → (i : ℕ) → row_length
      (part flags W) (remaining_after limit false (part flags W) i).left (place_in flags x) ≤ limit

abbrev pub SmallTells : Type 0
SmallTells = (limit : ℕ) (W : Repository) (flags needed apart : List Bool) (S : Repository) →
    HaveRivals W flags needed apart → IsSmall W needed apart S →
    TellsOfMix limit W flags needed apart S

-- what a base and a small book say together of a mix: the rows of packages that have changed come
-- from the small book, the others stay
pub record IsFollowed (from : Interned) (book : Book) (base : Base)
    (flags changed needed apart : List Bool) (S : Repository) : Type 0 where
  pub sound : Sound from book
  pub base_is : IsBase from book base
  pub long : length changed ≡ length flags
  pub changed_are : AreChanged (repository_of from book) base.flags.items flags changed
  pub needed_are : (n : ℕ) → flag flags n ≡ true → flag changed n ≡ true → flag needed n ≡ true
  pub apart_are : HaveRivals (repository_of from book) flags needed apart
  pub small_is : IsSmall (repository_of from book) needed apart S

-- the mix is within the limit exactly if the small book is
pub record LimitBySmall (limit : ℕ) (P S : Repository) : Type 0 where
  pub there : passes limit false P ≡ None → passes limit false S ≡ None
  pub back : passes limit false S ≡ None → passes limit false P ≡ None

-- each row of the mix, in the numbers of all packages, is that of the base, or the one of the small
-- book
pub record RowsBySmall (from : Interned) (book : Book) (base : Base)
    (flags changed apart : List Bool) (S : Repository) : Type 0 where
  pub stays : (x : ℕ) → flag flags x ≡ true → flag changed x ≡ false → row_at base.pool
      (row_id base.rows.items x) ≡ row_of_part base.limit flags (repository_of from book) x
  pub made : (x : ℕ) → flag flags x ≡ true → flag changed x ≡ true →
      clauses_in (numbers_up apart) (row S (core_of base.limit false S) (place_in apart x))
      ≡ row_of_part base.limit flags (repository_of from book) x

abbrev pub MixFollows : Type 0
MixFollows = (from : Interned) (book : Book) (base : Base) (flags changed needed apart : List Bool)
    (S : Repository) → IsFollowed from book base flags changed needed apart S →
    LimitBySmall base.limit (part flags (repository_of from book)) S
    × RowsBySmall from book base flags changed apart S

-- the packages of a mix that have changed, and all that these need there
pub record AreNeeded (W : Repository) (flags changed needed : List Bool) : Type 0 where
  pub count : length needed ≡ length flags
  pub all : (n : ℕ) → flag flags n ≡ true → flag changed n ≡ true → flag needed n ≡ true
  pub mix : (n : ℕ) → flag needed n ≡ true → flag flags n ≡ true
  pub closed : (p : ℕ) → flag needed p ≡ true → (c : List ℕ) → In c (clauses_of W p) →
      (n : ℕ) → In n c → flag flags n ≡ true → flag needed n ≡ true

-- the members of clauses that are in a mix
abbrev pub members_in : List Bool → List (List ℕ) → List ℕ
members_in flags [] = []
members_in flags (c ∷ clauses) = filter (flag flags) c ++ members_in flags clauses

-- packages of a mix: all that are needed, and for each of these that has conflicts in the mix, at
-- least one package that it conflicts with
pub record HasRivals (conflicts : List (List ℕ)) (flags needed apart : List Bool) : Type 0 where
  pub size : length apart ≡ length needed
  pub stays : (n : ℕ) → flag needed n ≡ true → flag apart n ≡ true
  pub mix : (n : ℕ) → flag apart n ≡ true → flag flags n ≡ true
  pub rivals : (p m : ℕ) → flag needed p ≡ true → In m (listed_for conflicts p) →
      flag flags m ≡ true → list_any (flag apart) (listed_for conflicts p) ≡ true

-- the small book of packages of a mix that have changed, by those that are needed
pub record IsSmallBook (from : Interned) (book : Book) (flags changed : List Bool)
    (made : SmallBook) : Type 0 where
  pub needed : List Bool
  pub needed_are : AreNeeded (repository_of from book) flags changed needed
  pub apart_are : HaveRivals (repository_of from book) flags needed made.apart.flags.items
  pub sound : Sound made.pool made.book
  pub small_is : IsSmall (repository_of from book) needed made.apart.flags.items
      (repository_of made.pool made.book)
