-- for the bodies of this crate alone
-- Rows before any package is taken out: the minimal clauses of a package that do not hold it.
use Rattle.std.specs.Prelude.{ℕ, Bool, true, false, List, [], ◌∷◌, length, map}
use Rattle.clause_pool.specs.Clauses.{apart_from, minimal_of, in_row_order}
use Rattle.row_book.specs.Numbers.{numbers}
use Rattle.clause_flatten.specs.Substitution.{table_row}

-- the first row of a package from its clauses
abbrev pub first_row : ℕ → List (List ℕ) → List (List ℕ)
first_row p cs = in_row_order (minimal_of (apart_from p cs))

-- the first row of each package from a table of clauses
unfoldable pub tidied_table : List (List (List ℕ)) → List (List (List ℕ))
tidied_table t = map (λ p. first_row p (table_row t p)) (numbers (length t) 0)

-- whether the first clause of the family is empty
abbrev pub begins_empty : List (List ℕ) → Bool
begins_empty [] = false
begins_empty ([] ∷ family) = true
begins_empty ((n ∷ ns) ∷ family) = false
