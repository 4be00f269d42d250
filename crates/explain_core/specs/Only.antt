-- Repositories with the clauses of another and with chosen conflicts.
use Rattle.std.specs.Prelude.{ℕ, ◌&&◌, ltb, List, filter, length, map}
use Rattle.std.specs.List.{flat_map, range_with_len}
use Rattle.row_book.specs.{Book.{lists_of_pairs}, Repository.{Repository, conflicts_of}}
use Rattle.row_book.specs.{Sets.{NumSet}, declared.pair.Pair.{Pair}}

-- two packages
abbrev pub pair : ℕ → ℕ → Pair
pair low high = record { low = low; high = high }

-- the clauses of the repository, and no conflicts but those of the pairs
abbrev pub only : Repository → List Pair → Repository
only R pairs = record { clauses = R.clauses; conflicts = lists_of_pairs pairs (length R.clauses) }

-- the conflicts of a package with greater ones of the set
abbrev pub conflicts_above : Repository → NumSet → ℕ → List Pair
conflicts_above R S low =
    map (pair low) (filter (λ high. ltb low high && S high) (conflicts_of R low))

-- the conflicts within the set, ascending by their lesser and then by their greater numbers
abbrev pub conflicts_within : Repository → NumSet → List Pair
conflicts_within R S =
    flat_map (conflicts_above R S) (filter S (range_with_len 0 (length R.clauses)))
