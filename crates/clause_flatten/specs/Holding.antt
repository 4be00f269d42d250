-- for the bodies of this crate alone
-- How many clauses a row can have once a package is taken out.
use Rattle.std.specs.Prelude.{ℕ, ◌+◌, ◌*◌, ltb, cond, List, length, Option, Some, None}
use Rattle.std.specs.List.{filter}
use Rattle.listed.specs.Lists.{has}
use Rattle.clause_pool.specs.Clauses.{apart_from}

-- the clauses that hold the number
abbrev pub clauses_with : ℕ → List (List ℕ) → List (List ℕ)
clauses_with q cs = filter (λ c. has c q) cs

-- a row can have at most the clauses without the package, and for each other clause one for each of
-- the n clauses of the package's own row
abbrev pub most_clauses : ℕ → List (List ℕ) → ℕ → ℕ
most_clauses q cs n = length (apart_from q cs) + length (clauses_with q cs) * n

-- the number, if it is over the limit
abbrev pub over_limit : ℕ → ℕ → Option ℕ
over_limit limit n = cond (ltb limit n) (Some n) None
