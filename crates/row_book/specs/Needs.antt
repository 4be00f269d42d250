-- Clauses that are wanted and that no pool holds.
use Rattle.std.specs.Prelude.{ℕ, ◌<◌, List, length}
use Rattle.listed.specs.Lists.{In, Ascending}

-- a clause that something can hit: strictly ascending and not empty
pub record IsNeed (clause : List ℕ) : Type 0 where
  pub ascending : Ascending clause
  pub filled : 0 < length clause

abbrev pub AreNeeds : List (List ℕ) → Type 0
AreNeeds clauses = (c : List ℕ) → In c clauses → IsNeed c

-- each number of each clause is below the size
abbrev pub NeedsFit : ℕ → List (List ℕ) → Type 0
NeedsFit size clauses = (c : List ℕ) → In c clauses → (n : ℕ) → In n c → n < size
