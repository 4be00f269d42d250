-- for the bodies of this crate alone
-- What is looked at when a package is taken out of a table of rows.
use Rattle.std.specs.Prelude.{ℕ, Bool, ltb, eqb, cond, List, length}
use Rattle.listed.specs.Lists.{has}
use Rattle.row_book.specs.Book.{listed_for}
use Rattle.clause_flatten.specs.Substitution.{length_in}

-- whether the row of the package has more clauses than the limit allows
abbrev pub is_over : List (List (List ℕ)) → ℕ → ℕ → Bool
is_over t limit q = ltb limit (length_in t q)

-- the counts of the table for the packages of the list, and the given ones for the others
abbrev pub counted_anew : (ℕ → ℕ) → List (List (List ℕ)) → List ℕ → ℕ → ℕ
counted_anew count t users q = cond (has users q) (length_in t q) (count q)

-- whether the package has no conflict in the table
abbrev pub is_free : List (List ℕ) → ℕ → Bool
is_free conflicts q = eqb (length (listed_for conflicts q)) 0
