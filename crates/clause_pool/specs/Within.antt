-- Whether a clause of a family lies within some numbers.
use Rattle.std.specs.Prelude.{ℕ, zero, suc, Bool, true, not, ◌&&◌, eqb, List, [], ◌∷◌, drop, Option}
use Rattle.std.specs.{Prelude.{Some, None}, List.{list_any}, Cmp.Lexicographic.{pointwise}}
use Rattle.clause_pool.specs.Interned.{Interned, clause_at}
use Rattle.listed.specs.Lists.{is_inside}

-- whether the clause is another one than the given one, if there is one
abbrev pub is_other : Option (List ℕ) → List ℕ → Bool
is_other None e = true
is_other (Some d) e = not (pointwise eqb e d)

-- whether the clause is another one than the given one, and each of its members is among the
-- numbers
abbrev pub is_within : Option (List ℕ) → List ℕ → List ℕ → Bool
is_within but ns e = is_other but e && is_inside e ns

-- whether `is_within` holds of some clause
abbrev pub some_within : Option (List ℕ) → List ℕ → List (List ℕ) → Bool
some_within but ns cs = list_any (is_within but ns) cs

-- one more than the first number of a clause, or 0 for the empty clause: it rises along clauses in
-- lexicographic order
abbrev pub lead : List ℕ → ℕ
lead [] = zero
lead (x ∷ xs) = suc x

-- what the clause of an id has from a depth on
abbrev pub rest_at : Interned → ℕ → ℕ → List ℕ
rest_at pool depth id = drop depth (clause_at pool id)

-- whether the clause of the id has the number at the depth
abbrev pub goes_on : Interned → ℕ → ℕ → ℕ → Bool
goes_on pool depth number id = eqb (lead (rest_at pool depth id)) (suc number)

-- whether the clause of the id is another one than the given one, and each of its numbers from the
-- depth on is wanted
abbrev pub rest_within : Interned → Option (List ℕ) → ℕ → List ℕ → ℕ → Bool
rest_within pool but depth wanted id =
    is_other but (clause_at pool id) && is_inside (rest_at pool depth id) wanted
