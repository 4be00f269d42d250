-- The greatest set of packages without conflicts that a given set serves: what holds at each step
-- until it is found.
use Rattle.std.specs.Prelude.{◌≡◌, ℕ, ◌<◌, Bool, true, false, List, length, ◌⊎◌, ◌||◌}
use Rattle.std.specs.List.{list_any, list_all}
use Rattle.row_book.specs.{Sets.{NumSet, Is, Within}, Book.{listed_for}}
use Rattle.row_book.specs.Repository.{Repository, clauses_of, against}
use Rattle.listed.specs.Lists.{In}
use Rattle.clause_flatten.specs.Laws.{Served}

-- each clause of the row is hit by the two sets together
abbrev pub is_served : NumSet → NumSet → List (List ℕ) → Bool
is_served I J row = list_all (λ c. list_any (λ n. I n || J n) c) row

-- the table has lists of packages; each member of J below the place is in the list of each member
-- of J that it names
pub record TellsUsers (R : Repository) (J : NumSet) (place : ℕ)
    (table : List (List ℕ)) : Type 0 where
  pub size : length table ≡ length R.clauses
  pub packages : (n p : ℕ) → In p (listed_for table n) → p < length R.clauses
  pub listed : (p : ℕ) → p < place → Is J p → (c : List ℕ) → In c (clauses_of R p) →
      (n : ℕ) → In n c → Is J n → In p (listed_for table n)

-- J contains each served set, and has only packages without conflicts. Each of them below the place
-- is served or waits, and the table has its users.
pub record IsLowering (R : Repository) (I J : NumSet) (place : ℕ) (table : List (List ℕ))
    (work : List ℕ) : Type 0 where
  pub packages : (n : ℕ) → Is J n → n < length R.clauses
  pub free : (n m : ℕ) → Is J n → (against R n m ≡ false) × (against R m n ≡ false)
  pub greatest : (K : NumSet) → Served R I K → Within K J
  pub settled : (n : ℕ) → n < place → Is J n → (is_served I J (clauses_of R n) ≡ true) ⊎ In n work
  pub waiting : (n : ℕ) → In n work → n < length R.clauses
  pub users : TellsUsers R J place table

-- the table gains a user in the lists of those numbers of the clauses that are in J, and nowhere
-- else
pub record PutsUser (J : NumSet) (clauses : List (List ℕ)) (user : ℕ)
    (old new : List (List ℕ)) : Type 0 where
  pub size : length new ≡ length old
  pub kept : (n p : ℕ) → In p (listed_for old n) → In p (listed_for new n)
  pub only : (n p : ℕ) → In p (listed_for new n) → In p (listed_for old n) ⊎ (p ≡ user)
  pub listed : (c : List ℕ) → In c clauses → (n : ℕ) → In n c → Is J n → In user (listed_for new n)
