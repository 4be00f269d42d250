-- for the bodies of this crate alone
-- Rows from which packages can be taken out. A row is a list of the ids of its clauses.
use Rattle.std.specs.Prelude.{◌≡◌, ℕ, List, map}
use Rattle.clause_pool.specs.Interned.{Interned, clauses_at}
use Rattle.listed.specs.Lists.{In, Inside}
use Rattle.row_book.specs.{Book.{listed_for}, Holders.{Holders, ListsFit, TellsRows}}

-- the clauses of each row
abbrev pub table_of : Interned → List (List ℕ) → List (List (List ℕ))
table_of pool rows = map (clauses_at pool) rows

-- no clause of a row holds the row's own package, or includes another clause of that row
pub record ListsTidy (pool : Interned) (rows : List (List ℕ)) : Type 0 where
  pub apart : (p : ℕ) (c : List ℕ) → In c (clauses_at pool (listed_for rows p)) → In p c → ⊥
  pub minimal : (p : ℕ) (c d : List ℕ) → In c (clauses_at pool (listed_for rows p)) →
      In d (clauses_at pool (listed_for rows p)) → Inside c d → c ≡ d

-- the rows are tidy and of clauses of the pool, and the table says which clauses each has
pub record AreReady (pool : Interned) (rows : List (List ℕ)) (holders : Holders) : Type 0 where
  pub fit : ListsFit pool rows
  pub tidy : ListsTidy pool rows
  pub table : TellsRows pool rows holders
