-- for the bodies of this crate alone
-- Thinning by a list of what is gone: the conflicts that are left of a table, and the pairs of one
-- package.
use Rattle.std.specs.Prelude.{◌≡◌, ℕ, ◌<◌, Bool, not, ◌&&◌, ltb, List, [], ◌∷◌, ◌++◌, ◌⊎◌, length}
use Rattle.std.specs.Prelude.{map, filter, cond, slice_set}
use Rattle.clause_pool.specs.Interned.{Interned, row_at}
use Rattle.row_book.specs.{declared.book.Book.{Book}, declared.pair.Pair.{Pair}, Numbers.{numbers}}
use Rattle.row_book.specs.{Facing.{against_in}, Book.{listed_for}, Repository.{Repository}}
use Rattle.row_book.specs.Thinning.{is_pair, is_redundant}
use Rattle.listed.specs.Lists.{In}
use Rattle.conflict_reduce.specs.Ascending.{AreAscending}

-- the conflicts of a package by the first table that are not in the second
abbrev pub left_for : List (List ℕ) → List (List ℕ) → ℕ → List ℕ
left_for table gone p = filter (λ q. not (against_in gone p q)) (listed_for table p)

-- what is left of the first table without the conflicts of the second
unfoldable pub left_of : List (List ℕ) → List (List ℕ) → List (List ℕ)
left_of table gone = map (left_for table gone) (numbers (length table) 0)

-- the book's rows with those of its conflicts that are left
abbrev pub book_left : Interned → Book → List (List ℕ) → Repository
book_left pool book gone =
    record { clauses = map (row_at pool) book.rows; conflicts = left_of book.conflicts gone }

-- whether m and n conflict in the table, and are not the given pair
abbrev pub conflict_but : List (List ℕ) → Pair → ℕ → ℕ → Bool
conflict_but table pair m n = against_in table m n && not (is_pair pair.low pair.high m n)

-- the table with a number appended to the list of a package
abbrev pub with_behind : List (List ℕ) → ℕ → ℕ → List (List ℕ)
with_behind table p n = slice_set table p (listed_for table p ++ n ∷ [])

-- what is gone, with the conflict of a and b
abbrev pub with_gone : List (List ℕ) → ℕ → ℕ → List (List ℕ)
with_gone gone a b = with_behind (with_behind gone a b) b a

-- what is gone after the conflict of a with b was looked at: it is added if b is the greater one
-- and it is redundant
abbrev pub gone_after : Repository → List (List ℕ) → ℕ → ℕ → List (List ℕ)
gone_after R gone a b = cond (ltb a b && is_redundant R a b) (with_gone gone a b) gone

-- the pairs of a package with the greater ones of a list
abbrev pub pairs_with : ℕ → List ℕ → List (ℕ × ℕ)
pairs_with a list = map (λ b. (a, b)) (filter (λ b. ltb a b) list)

-- lists, one for each package, of what is gone: each ascends, and each conflict in them has a
-- package below the given one
pub record PassedBelow (gone : List (List ℕ)) (size a : ℕ) : Type 0 where
  pub count : length gone ≡ size
  pub ascending : AreAscending gone
  pub below : (p q : ℕ) → In q (listed_for gone p) → (p < a) ⊎ (q < a)
