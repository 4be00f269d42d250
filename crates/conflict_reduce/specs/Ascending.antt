-- for the bodies of this crate alone
-- Tables whose lists ascend.
use Rattle.std.specs.Prelude.{ℕ, List}
use Rattle.clause_pool.specs.Props.{Ascending-prop}
use Rattle.row_book.specs.Book.{listed_for}
use Rattle.listed.specs.Lists.{Ascending}

-- each list of the table ascends
abbrev pub AreAscending : List (List ℕ) → Type 0
AreAscending table = (p : ℕ) → Ascending (listed_for table p)

-- this has one proof at most, so that a struct may keep it
pub AreAscending-prop : (table : List (List ℕ)) → IsProp (AreAscending table)
AreAscending-prop table = hlevel Ascending-prop
