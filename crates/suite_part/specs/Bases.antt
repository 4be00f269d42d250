-- What is known of the rows of a part, and which packages of it are in another part as they are.
use Rattle.std.specs.Prelude.{◌≡◌, ℕ, ◌<◌, ◌-◌, ◌⊎◌, Bool, true, false, List, ◌++◌, None, length}
use Rattle.std.specs.{Prelude.{replicate}, List.{list_any}}
use Rattle.clause_pool.specs.Interned.{Interned, row_at, IsPool}
use Rattle.listed.specs.Lists.{In}
use Rattle.row_book.specs.{declared.book.Book.{Book}, Book.{listed_for, repository_of}}
use Rattle.row_book.specs.{Flags.{flag}, Flattening.{core_of, passes}}
use Rattle.row_book.specs.Parts.{clauses_in, numbers_up, part, place_in}
use Rattle.row_book.specs.{Repository.{Repository, clauses_of}, Support.{row}}
use Rattle.row_book.specs.Uses.{row_id, uses_of}
use Rattle.suite_part.specs.declared.base.Base.{Base}

-- the flags of the first packages
abbrev pub first_flags : ℕ → ℕ → List Bool
first_flags count size = replicate count true ++ replicate (size - count) false

-- the part that the first packages of a book make
abbrev pub first_part : ℕ → Repository → Repository
first_part count R = part (first_flags count (length R.clauses)) R

-- the flattened row, without hold, of a package in the part that has it, in the numbers of the book
abbrev pub row_of_part : ℕ → List Bool → Repository → ℕ → List (List ℕ)
row_of_part limit flags R n = clauses_in (numbers_up flags)
    (row (part flags R) (core_of limit false (part flags R)) (place_in flags n))

-- A flag and a row for each package of the book; the row of a package with a flag is its row in the
-- part. No row of this part passes the limit at any stage. There is also a table of the users of
-- each package of the book.
pub record IsBase (from : Interned) (book : Book) (base : Base) : Type 0 where
  pub is_pool : IsPool base.pool
  pub size : length base.flags.items ≡ length book.rows
  pub rows : (n : ℕ) → flag base.flags.items n ≡ true → row_at base.pool (row_id base.rows.items n)
      ≡ row_of_part base.limit base.flags.items (repository_of from book) n
  pub none_passes : passes base.limit false (part base.flags.items (repository_of from book)) ≡ None
  pub users_are : base.users ≡ uses_of from book.rows

-- A base has a flag for each package of a book, and its table of users has a list for each. All
-- numbers of that table and of the book's conflicts are of the book.
pub record FitsIn (book : Book) (base : Base) : Type 0 where
  pub size : length base.flags.items ≡ length book.rows
  pub users : length base.users ≡ length book.rows
  pub numbers : (n m : ℕ) → In m (listed_for base.users n) → m < length book.rows
  pub conflicts : (p n : ℕ) → In n (listed_for book.conflicts p) → n < length book.rows

-- A package is in both of two parts, or in neither. Of the packages that conflict with it at least
-- one is in each part, or none is in either.
pub record StandsAlike (conflicts : List (List ℕ)) (own chosen : List Bool) (n : ℕ) : Type 0 where
  pub there : flag own n ≡ flag chosen n
  pub against : list_any (flag own) (listed_for conflicts n)
      ≡ list_any (flag chosen) (listed_for conflicts n)

-- a package stands alike, and the flags of all that it names are down
pub record StaysAs (R : Repository) (own chosen changed : List Bool) (n : ℕ) : Type 0 where
  pub needs : (c : List ℕ) → In c (clauses_of R n) → (m : ℕ) → In m c → flag changed m ≡ false
  pub alike : StandsAlike R.conflicts own chosen n

-- each package whose flag is down stays as it is
abbrev pub AreChanged : Repository → List Bool → List Bool → List Bool → Type 0
AreChanged R own chosen changed = (n : ℕ) → n < length changed → flag changed n ≡ false →
    StaysAs R own chosen changed n

-- Afterwards all of the packages have their flags, and all that had one keep it. Each that gains
-- its flag is one of them and is added to the work, and only packages are.
pub record Flags (packages : List ℕ) (before : List Bool) (work : List ℕ) (after : List Bool)
    (more : List ℕ) : Type 0 where
  pub size : length after ≡ length before
  pub stays : (n : ℕ) → flag before n ≡ true → flag after n ≡ true
  pub all : (n : ℕ) → In n packages → flag after n ≡ true
  pub own : (n : ℕ) → flag after n ≡ true → (flag before n ≡ true) ⊎ In n packages
  pub waits : (n : ℕ) → In n work → In n more
  pub gains : (n : ℕ) → flag after n ≡ true → (flag before n ≡ true) ⊎ In n more
  pub only : (n : ℕ) → In n more → In n work ⊎ (n < length before)
