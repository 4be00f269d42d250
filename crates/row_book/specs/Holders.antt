-- Which rows have which clauses, and which clauses hold which packages. A clause is given by its
-- id.
use Rattle.std.specs.{Prelude.{◌≡◌, ℕ, ◌<◌, ◌⊎◌, Bool, List, filter, length}, Global.{Vec}}
use Rattle.std.specs.List.{list_any}
use Rattle.clause_pool.specs.Interned.{Interned, IsPool, OfPool, clause_at, clauses_at}
use Rattle.clause_pool.specs.Lists.{InOrder}
use Rattle.listed.specs.Lists.{In, has}
use Rattle.row_book.specs.{Numbers.{numbers}, Book.{listed_for}, Uses.{lists_in}}

-- rows as the ids of their clauses: these are of the pool and in order, and each number in them is
-- below the number of rows
pub record ListsFit (pool : Interned) (rows : List (List ℕ)) : Type 0 where
  pub is_pool : IsPool pool
  pub of_pool : (p : ℕ) → OfPool pool (listed_for rows p)
  pub in_order : (p : ℕ) → InOrder (clauses_at pool (listed_for rows p))
  pub numbers : (c p : ℕ) → In c (listed_for rows p) →
      (n : ℕ) → In n (clause_at pool c) → n < length rows

-- one of the clauses holds the number
abbrev pub ids_hold : Interned → ℕ → List ℕ → Bool
ids_hold pool n ids = list_any (λ id. has (clause_at pool id) n) ids

-- the row of the package has a clause that holds the number
abbrev pub is_user : Interned → List (List ℕ) → ℕ → ℕ → Bool
is_user pool rows n p = ids_hold pool n (listed_for rows p)

-- those packages, ascending
abbrev pub users_in : Interned → List (List ℕ) → ℕ → List ℕ
users_in pool rows n = filter (is_user pool rows n) (numbers (length rows) 0)

-- a list of packages for each clause, its users, and a list of clauses for each package
pub record Holders : Type 0 where
  pub users : List (List ℕ)
  pub clauses : List (List ℕ)

abbrev pub holders_in : List (Vec ℕ) → List (Vec ℕ) → Holders
holders_in users clauses = record { users = lists_in users; clauses = lists_in clauses }

-- a clause with a user is of the pool and is listed for each package that it holds, and none is
-- listed for any other
pub record ListsClauses (pool : Interned) (table : Holders) : Type 0 where
  pub of_pool : (c p : ℕ) → In p (listed_for table.users c) → c < length pool.clauses
  pub listed : (c p n : ℕ) → In p (listed_for table.users c) → In n (clause_at pool c) →
      In c (listed_for table.clauses n)
  pub held : (n c : ℕ) → In c (listed_for table.clauses n) → In n (clause_at pool c)

-- The table of some rows: a package whose row has a clause is among the users of the clause. It may
-- be listed there several times, and so may one whose row had the clause and has lost it.
pub record TellsRows (pool : Interned) (rows : List (List ℕ)) (table : Holders) : Type 0 where
  pub size : length table.clauses ≡ length rows
  pub users : (c p : ℕ) → In c (listed_for rows p) → In p (listed_for table.users c)
  pub lists : ListsClauses pool table

-- of the clauses, exactly those that hold the number are at the places
abbrev pub ArePlaced : Interned → ℕ → List ℕ → List ℕ → Type 0
ArePlaced pool n places ids = (id : ℕ) → In id ids → has places id ≡ has (clause_at pool id) n

-- no list has lost a member
abbrev pub HasAll : List (List ℕ) → List (List ℕ) → Type 0
HasAll old new = (n m : ℕ) → In m (listed_for old n) → In m (listed_for new n)

-- what came into lists is one item, and it came only into lists of these numbers
abbrev pub GainsOnly : List ℕ → ℕ → List (List ℕ) → List (List ℕ) → Type 0
GainsOnly numbers item old new = (n m : ℕ) → In m (listed_for new n) →
    In m (listed_for old n) ⊎ (In n numbers × (m ≡ item))
