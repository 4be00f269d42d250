-- for the bodies of this crate alone
-- The tests of pruning over a pool, a table of conflicts, and the rows as they are left.
use Rattle.std.specs.Prelude.{ℕ, Bool, not, ◌&&◌, ◌||◌, eqb, List, [], filter, map, slice_set}
use Rattle.std.specs.{List.{list_all, list_any}, Cmp.Lexicographic.{pointwise}}
use Rattle.listed.specs.Lists.{is_inside, has}
use Rattle.row_book.specs.{Pruning.{serves}, Repository.{Repository}, Facing.{against_in}}
use Rattle.clause_pool.specs.Interned.{Interned, clauses_at, row_at}

-- a repository of rows, with these clauses for one package
abbrev pub with_ids : Interned → List ℕ → ℕ → List ℕ → List (List ℕ) → Repository
with_ids pool rows p left table =
    record {
      clauses = slice_set (map (row_at pool) rows) p (clauses_at pool left);
      conflicts = table;
    }

-- whether the clause e is not d, and each of its members sees to it that d is hit
abbrev pub forces_in : Interned → List ℕ → ℕ → List ℕ → List ℕ → List ℕ → Bool
forces_in pool rows p left d e =
    not (pointwise eqb e d) && list_all (serves (with_ids pool rows p left []) d) e

-- whether the clause e is not d, and y conflicts with each of its members
abbrev pub excludes_in : Interned → List (List ℕ) → ℕ → List ℕ → List ℕ → Bool
excludes_in pool table y d e = not (pointwise eqb e d) && list_all (against_in table y) e

-- whether the clause e is not d, and lies within c
abbrev pub includes_in : List ℕ → List ℕ → List ℕ → Bool
includes_in d c e = not (pointwise eqb e d) && is_inside e c

-- whether y, which conflicts with a member of d, is out anyway if p is in and d is not hit
abbrev pub harmless_in : Interned → List (List ℕ) → ℕ → List ℕ → List ℕ → ℕ → Bool
harmless_in pool table p left d y = not (eqb y p) && (has d y
    || (against_in table p y || list_any (excludes_in pool table y d) (clauses_at pool left)))

-- whether the clause c is hit whenever p is in and its clauses other than d are hit
abbrev pub hit_anyway_in : Interned → ℕ → List ℕ → List ℕ → List ℕ → Bool
hit_anyway_in pool p left d c = has c p || list_any (includes_in d c) (clauses_at pool left)

-- the ids without one
abbrev pub ids_without : List ℕ → ℕ → List ℕ
ids_without ids id = filter (λ other. not (eqb other id)) ids

-- rows of a pool with a table of conflicts
abbrev pub repository_in : Interned → List ℕ → List (List ℕ) → Repository
repository_in pool rows table = record { clauses = map (row_at pool) rows; conflicts = table }
