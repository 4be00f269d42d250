-- The part of a repository that some of its packages make: these alone, in their order and numbered
-- anew, with what is left of their clauses and conflicts.
use Rattle.std.specs.Prelude.{ℕ, Bool, List, map, filter, length, slice_index_or, take}
use Rattle.std.specs.List.{items_where_true, range_with_len}
use Rattle.clause_pool.specs.Clauses.{in_row_order}
use Rattle.row_book.specs.{Flags.{flag}, Repository.{Repository}}

-- the number of a package among those whose flags are up: how many of them come before it
abbrev pub place_in : List Bool → ℕ → ℕ
place_in flags n = length (filter (λ is_up. is_up) (take n flags))

-- those of some packages whose flags are up, by their numbers among all of these
abbrev pub chosen_in : List Bool → List ℕ → List ℕ
chosen_in flags numbers = map (place_in flags) (filter (flag flags) numbers)

-- what is left of the clauses of a row, in order
abbrev pub row_in : List Bool → List (List ℕ) → List (List ℕ)
row_in flags row = in_row_order (map (chosen_in flags) row)

unfoldable pub part : List Bool → Repository → Repository
part flags R = record {
  clauses = map (row_in flags) (items_where_true flags R.clauses);
  conflicts = map (chosen_in flags) (items_where_true flags R.conflicts);
}

-- And back: the numbers of the packages whose flags are up; the number at a place, 0 past the last;
-- clauses of places as clauses of numbers.
abbrev pub numbers_up : List Bool → List ℕ
numbers_up flags = filter (flag flags) (range_with_len 0 (length flags))

abbrev pub number_in : List ℕ → ℕ → ℕ
number_in numbers k = slice_index_or numbers k 0

abbrev pub clause_in : List ℕ → List ℕ → List ℕ
clause_in numbers places = map (number_in numbers) places

abbrev pub clauses_in : List ℕ → List (List ℕ) → List (List ℕ)
clauses_in numbers clauses = map (clause_in numbers) clauses
