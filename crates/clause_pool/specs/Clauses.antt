-- Families of clauses: those apart from a number, the minimal ones, and the order in which they are
-- kept.
use Rattle.std.specs.Prelude.{ℕ, Bool, true, false, not, ◌&&◌, ◌||◌, eqb, ltb, cond, List, [], ◌∷◌}
use Rattle.std.specs.List.{list_all, filter}
use Rattle.listed.specs.Lists.{has, is_inside}

-- the clauses that do not hold the number
abbrev pub apart_from : ℕ → List (List ℕ) → List (List ℕ)
apart_from p cs = filter (λ c. not (has c p)) cs

-- the minimal clauses: no other clause of the family is within them
abbrev pub minimal_of : List (List ℕ) → List (List ℕ)
minimal_of cs = filter (λ T. list_all (λ S. not (is_inside S T) || is_inside T S) cs) cs

-- whether the first clause comes before the second in lexicographic order
abbrev pub comes_before : List ℕ → List ℕ → Bool
comes_before [] [] = false
comes_before [] (y ∷ ys) = true
comes_before (x ∷ xs) [] = false
comes_before (x ∷ xs) (y ∷ ys) = ltb x y || (eqb x y && comes_before xs ys)

abbrev pub insert_clause : List ℕ → List (List ℕ) → List (List ℕ)
insert_clause c [] = c ∷ []
insert_clause c (d ∷ ds) =
    cond (comes_before c d) (c ∷ (d ∷ ds))
    (cond (comes_before d c) (d ∷ insert_clause c ds) (d ∷ ds))

-- the clauses in lexicographic order, each once
abbrev pub in_row_order : List (List ℕ) → List (List ℕ)
in_row_order [] = []
in_row_order (c ∷ cs) = insert_clause c (in_row_order cs)
