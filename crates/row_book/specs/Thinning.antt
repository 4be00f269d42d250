-- Thinning: a conflict is dropped if the two packages exclude each other by other conflicts
-- already.
use Rattle.std.specs.Prelude.{ℕ, Bool, not, ◌&&◌, ◌||◌, eqb, cond, List, [], ◌∷◌, ◌++◌, map, filter}
use Rattle.row_book.specs.{Repository.{Repository, against, conflicts_of}, Flattening.{packages}}
use Rattle.row_book.specs.Facing.{sides, face}

-- whether m and n are a and b, in one order or the other
abbrev pub is_pair : ℕ → ℕ → ℕ → ℕ → Bool
is_pair a b m n = (eqb m a && eqb n b) || (eqb m b && eqb n a)

-- whether m and n conflict by a pair other than a, b
abbrev pub against_but : Repository → ℕ → ℕ → ℕ → ℕ → Bool
against_but R a b m n = against R m n && not (is_pair a b m n)

-- the repository without the conflict of a and b
abbrev pub without_pair : Repository → ℕ → ℕ → Repository
without_pair R a b = record {
  clauses = R.clauses;
  conflicts = map (λ p. filter (λ q. not (is_pair a b p q)) (conflicts_of R p)) (packages R);
}

-- whether a and b exclude each other by other conflicts
abbrev pub is_redundant : Repository → ℕ → ℕ → Bool
is_redundant R a b = face (against_but R a b) (sides R a) (sides R b)

abbrev pub thin_pair : Repository → ℕ → ℕ → Repository
thin_pair R a b = cond (is_redundant R a b) (without_pair R a b) R

-- one pair after another, each in what is left
abbrev pub thin_over : Repository → List (ℕ × ℕ) → Repository
thin_over R [] = R
thin_over R (w ∷ ws) = thin_over (thin_pair R w.0 w.1) ws

-- all pairs of the numbers, in each the one that comes first in the list first
abbrev pub all_pairs : List ℕ → List (ℕ × ℕ)
all_pairs [] = []
all_pairs (a ∷ ns) = map (λ b. (a, b)) ns ++ all_pairs ns

-- the conflicting pairs, ascending, the lesser number first
abbrev pub conflicting_pairs : Repository → List (ℕ × ℕ)
conflicting_pairs R = filter (λ w. against R w.0 w.1) (all_pairs (packages R))

unfoldable pub thin : Repository → Repository
thin R = thin_over R (conflicting_pairs R)
