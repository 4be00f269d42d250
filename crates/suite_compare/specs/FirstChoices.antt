-- for the bodies of this crate alone
-- First choices: sets of classes that show, without a search, that a search finds something and
-- fails nowhere. No two of their classes conflict. A first choice has the first member of each goal
-- and of each clause of a member.
use Rattle.std.specs.Prelude.{◌≡◌, ℕ, ◌<◌, Bool, true, false, List, length, slice_get, Option, Some}
use Rattle.std.specs.Prelude.{None}
use Rattle.row_book.specs.{Sets.{NumSet, Is}, Repository.{Repository, clauses_of, against}}
use Rattle.listed.specs.Lists.{In}

abbrev pub first_member : List ℕ → Option ℕ
first_member ns = slice_get ns 0

abbrev pub is_one_of : NumSet → Option ℕ → Bool
is_one_of T None = false
is_one_of T (Some n) = T n

pub record IsFirstChoice (R : Repository) (goals : List (List ℕ)) (T : NumSet) : Type 0 where
  pub classes : (n : ℕ) → Is T n → n < length R.clauses
  pub of_goals : (g : List ℕ) → In g goals → is_one_of T (first_member g) ≡ true
  pub of_clauses : (p : ℕ) → Is T p → (c : List ℕ) → In c (clauses_of R p) →
      is_one_of T (first_member c) ≡ true
  pub peace : (m n : ℕ) → Is T m → Is T n → against R m n ≡ false
