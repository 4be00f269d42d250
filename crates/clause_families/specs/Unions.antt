-- Unions of clauses: when a package is taken out, each clause that names it is replaced by
-- its unions with the package's own clauses. Vouillon and Di Cosmo, "On Software Component
-- Co-Installability", the section on flattening.
use Rattle.std.specs.{Prelude.{ℕ, not, eqb, ltb, cond, List, [], ◌∷◌, ◌++◌, map}, List.{filter}}
use Rattle.listed.specs.Lists.{has}
use Rattle.clause_pool.specs.Clauses.{apart_from, minimal_of}

-- an ascending list with the number in its place, once
abbrev pub inserted : ℕ → List ℕ → List ℕ
inserted n [] = n ∷ []
inserted n (m ∷ ms) = cond (ltb n m) (n ∷ (m ∷ ms)) (cond (eqb n m) (m ∷ ms) (m ∷ inserted n ms))

-- the union of two ascending lists
abbrev pub union_of : List ℕ → List ℕ → List ℕ
union_of [] ys = ys
union_of (x ∷ xs) ys = inserted x (union_of xs ys)

-- the clause without the number
abbrev pub clause_without : ℕ → List ℕ → List ℕ
clause_without x T = filter (λ n. not (eqb n x)) T

-- what replaces a clause when q is taken out: the clause itself, or if it holds q its union,
-- without q, with each clause of q
abbrev pub unions_for : ℕ → List (List ℕ) → List ℕ → List (List ℕ)
unions_for q B T = cond (has T q) (map (λ U. union_of (clause_without q T) U) B) (T ∷ [])

-- what replaces all clauses of a list
abbrev pub all_unions_for : ℕ → List (List ℕ) → List (List ℕ) → List (List ℕ)
all_unions_for q [] B = []
all_unions_for q (T ∷ A) B = unions_for q B T ++ all_unions_for q A B

-- the clauses of p when q is taken out, from those of p and of q: each is replaced, those with p
-- are dropped, and the minimal ones are kept
abbrev pub substituted : ℕ → ℕ → List (List ℕ) → List (List ℕ) → List (List ℕ)
substituted p q A B = minimal_of (apart_from p (all_unions_for q A B))
