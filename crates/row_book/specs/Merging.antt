-- Merging: packages with the same clauses and the same conflicts become one class. Vouillon and Di
-- Cosmo, "On Software Component Co-Installability", the section on equivalence classes.
use Rattle.std.specs.Prelude.{ℕ, suc, Bool, not, ◌&&◌, eqb, ltb, cond, List, [], ◌∷◌, map, filter}
use Rattle.std.specs.{Prelude.{length, slice_index_or}, List.{list_any}}
use Rattle.std.specs.Cmp.Lexicographic.{pointwise}
use Rattle.row_book.specs.Sets.{NumSet}
use Rattle.row_book.specs.Repository.{Repository, against, clauses_of, conflicts_of}
use Rattle.row_book.specs.{Numbers.{numbers}, Flattening.{packages}}
use Rattle.listed.specs.Lists.{has}
use Rattle.clause_pool.specs.Clauses.{apart_from, minimal_of, in_row_order}

-- whether two packages have the same clauses and the same conflicts
abbrev pub are_alike : Repository → ℕ → ℕ → Bool
are_alike R p q =
    pointwise (pointwise eqb) (clauses_of R p) (clauses_of R q)
    && pointwise eqb (conflicts_of R p) (conflicts_of R q)

-- whether no lesser package is alike
abbrev pub is_first : Repository → ℕ → Bool
is_first R p = not (list_any (are_alike R p) (numbers p 0))

-- the least package of each class, ascending: the number of a class is the place of its least
-- package
unfoldable pub firsts : Repository → List ℕ
firsts R = filter (is_first R) (packages R)

-- the least package of a class
abbrev pub first_of : Repository → ℕ → ℕ
first_of R k = slice_index_or (firsts R) k 0

-- the classes in order
abbrev pub classes : Repository → List ℕ
classes R = numbers (length (firsts R)) 0

-- the place of the first number that passes the test, or the length if none does
abbrev pub place_of : (ℕ → Bool) → List ℕ → ℕ
place_of test [] = 0
place_of test (x ∷ xs) = cond (test x) 0 (suc (place_of test xs))

-- the class of a package
unfoldable pub class_of : Repository → ℕ → ℕ
class_of R p = place_of (are_alike R p) (firsts R)

-- for each package its class
abbrev pub class_list : Repository → List ℕ
class_list R = map (class_of R) (packages R)

-- the image of a set of packages: the classes that have a member of it
abbrev pub image : Repository → NumSet → NumSet
image R S k = list_any (λ p. S p && eqb (class_of R p) k) (packages R)

-- the packages of a set of classes
abbrev pub members : Repository → NumSet → NumSet
members R K p = ltb p (length R.clauses) && K (class_of R p)

-- the image of a clause as a clause
abbrev pub clause_image : Repository → List ℕ → List ℕ
clause_image R c = filter (image R (has c)) (classes R)

-- The clauses of a class. All its packages have the same clauses, so they are the images of the
-- clauses of its least package. Of these only those are kept that do not hold the class itself, and
-- of them the minimal ones.
abbrev pub class_clauses : Repository → ℕ → List (List ℕ)
class_clauses R k =
    in_row_order (minimal_of (apart_from k (map (clause_image R) (clauses_of R (first_of R k)))))

-- the classes that conflict with a class, as their packages do
abbrev pub class_conflicts : Repository → ℕ → List ℕ
class_conflicts R k = filter (λ l. against R (first_of R k) (first_of R l)) (classes R)

-- the merged repository
unfoldable pub quotient : Repository → Repository
quotient R = record {
  clauses = map (class_clauses R) (classes R);
  conflicts = map (class_conflicts R) (classes R);
}
