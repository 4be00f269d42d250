-- Tables of rows and stages: a package is taken out of all rows by substitution.
use Rattle.std.specs.Prelude.{ℕ, zero, suc, Bool, ◌&&◌, eqb, ltb, cond, List, [], map, length}
use Rattle.std.specs.{Prelude.{slice_index_or, slice_set, Option, Some, None}, List.{list_any}}
use Rattle.row_book.specs.{Sets.{plus, without}, Repository.{Repository, clauses_of}}
use Rattle.row_book.specs.Numbers.{numbers}
use Rattle.row_book.specs.Flattening.{packages, none_gone, may_go, soonest, Passed, passed_by}
use Rattle.row_book.specs.Flattening.{first_some, stages_tried, Remaining}
use Rattle.clause_pool.specs.Clauses.{apart_from, minimal_of, in_row_order}
use Rattle.clause_families.specs.Unions.{substituted}

-- the row of a package in a table of rows
abbrev pub table_row : List (List (List ℕ)) → ℕ → List (List ℕ)
table_row t p = slice_index_or t p []

-- the table when q is taken out: each row but that of q is substituted
unfoldable pub table_without : ℕ → List (List (List ℕ)) → List (List (List ℕ))
table_without q t =
    map (λ p. cond (eqb p q) (table_row t q)
    (in_row_order (substituted p q (table_row t p) (table_row t q)))) (numbers (length t) 0)

-- the table in which only the row of p is substituted
abbrev pub table_turned : ℕ → ℕ → List (List (List ℕ)) → List (List (List ℕ))
table_turned p q t = slice_set t p (in_row_order (substituted p q (table_row t p) (table_row t q)))

-- A whole elimination with its table of rows.

-- a stage: the packages that are left, those of them that are held, and the rows of all packages
pub record Stage : Type 0 where
  pub remaining : Remaining
  pub table : List (List (List ℕ))

-- how many clauses the row of the package in the table has
abbrev pub length_in : List (List (List ℕ)) → ℕ → ℕ
length_in t q = length (table_row t q)

-- the next package to be taken out, by the table
unfoldable pub choice_in : Repository → Stage → Option ℕ
choice_in R s = soonest (length_in s.table) (may_go R s.remaining) (packages R)

-- whether some row of the table has more clauses than the limit allows
unfoldable pub table_passes : ℕ → List (List (List ℕ)) → Bool
table_passes limit t = list_any (λ p. ltb limit (length_in t p)) (numbers (length t) 0)

-- the stage after the package is taken out, and after it is held
abbrev pub stage_without : Stage → ℕ → Stage
stage_without s q = record {
  remaining = record { left = without s.remaining.left q; held = s.remaining.held };
  table = table_without q s.table;
}

abbrev pub stage_holding : Stage → ℕ → Stage
stage_holding s q = record {
  remaining = record { left = s.remaining.left; held = plus s.remaining.held q };
  table = s.table;
}

abbrev pub next_stage : ℕ → Bool → Stage → Option ℕ → Stage
next_stage limit hold s None = s
next_stage limit hold s (Some q) =
    cond (hold && table_passes limit (table_without q s.table))
    (stage_holding s q) (stage_without s q)

-- before any step each row has the minimal clauses of the package that do not hold it
unfoldable pub first_table : Repository → List (List (List ℕ))
first_table R = map (λ p. in_row_order (minimal_of (apart_from p (clauses_of R p)))) (packages R)

unfoldable pub stage_after : ℕ → Bool → Repository → ℕ → Stage
stage_after limit hold R zero = record { remaining = none_gone R; table = first_table R }
stage_after limit hold R (suc i) =
    next_stage limit hold (stage_after limit hold R i) (choice_in R (stage_after limit hold R i))

-- the first stage with a row of more clauses than the limit allows, and that row; with hold only
-- the first stage is tried
unfoldable pub passes_by_stages : ℕ → Bool → Repository → Option Passed
passes_by_stages limit hold R =
    first_some (map (λ i. passed_by (length_in (stage_after limit hold R i).table)
    (packages R) limit i) (stages_tried hold R))
